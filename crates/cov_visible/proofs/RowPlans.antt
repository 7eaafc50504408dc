-- The changes of rows that edits make, one after another.
use Rattle.std.proofs.Common.{◌≡◌, ℕ, ◌+◌, ◌<◌, ◌≤◌, false, ◌||◌, nat_eq, List, [], ◌∷◌, ◌++◌, length, get_or, append-nil, append_assoc, refl, sym, ap, subst, ◌∙◌, arith}
use Rattle.std.specs.List.{AllByRecursion}
use Rattle.std.proofs.lemmas.Bool.Decides.{nat_tests}
use Rattle.cov_base.specs.Rows.{RowChange, has_node}
use Rattle.cov_base.proofs.CallerLemmas.{all-map}
use Rattle.cov_base.specs.declared.number.Kind.{Kind}
use Rattle.cov_dd.specs.declared.triple.Triple.{Triple}
use Rattle.cov_dd.specs.Diagrams.{diagram_size, Extends}
use Rattle.cov_edit.proofs.CallerLemmas.{rest_of, opened}
use Rattle.cov_tree.specs.declared.entry.Entry.{Entry}
use Rattle.cov_tree.specs.Changes.{Makes, nodes_after, kinds_after}
use Rattle.cov_tree.specs.Dated.{Dated}
use Rattle.cov_visible.specs.RowPlans.{row_changes, AlsoMakes, AreWithin, nodes_after_all, kinds_after_all, MakeNewNodes}
use Rattle.cov_visible.specs.declared.resolved_edit.ResolvedEdit.{ResolvedEdit}
use Rattle.cov_visible.specs.declared.resolved_edit.ResolvedEdit.TheVariants as resolved

-- the next node isn't among the first so many
pub fresh-next : (made node : ℕ) (nodes : List ℕ) → node ≡ made + 1 → AllByRecursion (λ n. n ≤ made) nodes → has_node node (0 ∷ nodes) ≡ false
fresh-next made node nodes is h =
    let root : nat_eq 0 node ≡ false = grind (arith, nat_tests, is) in
    ap (λ b. b || has_node node nodes) root ∙ rest nodes h
  where
    rest : (ns : List ℕ) → AllByRecursion (λ n. n ≤ made) ns → has_node node ns ≡ false
    rest [] k = refl
    rest (n ∷ ns) k =
        let low = k.0 in
        let other : nat_eq n node ≡ false = grind (arith, nat_tests, low, is) in
        ap (λ b. b || has_node node ns) other ∙ rest ns k.1

-- the changes of an edit come before those of later ones
changes-first : (s : ResolvedEdit) (ss : List ResolvedEdit) → row_changes (s ∷ ss) ≡ row_changes (s ∷ []) ++ row_changes ss
changes-first (resolved.New node kind parent name on) ss = refl
changes-first (resolved.Insert file anchor line text vis) ss = refl
changes-first (resolved.Delete file line vis) ss = refl
changes-first (resolved.Rename node name on) ss = refl
changes-first (resolved.Move node parent on) ss = refl
changes-first (resolved.Remove node on) ss = refl

nodes-both : (changes more : List (RowChange × ℕ)) (ns : List ℕ) → nodes_after_all (changes ++ more) ns ≡ nodes_after_all more (nodes_after_all changes ns)
nodes-both [] more ns = refl
nodes-both (change ∷ changes) more ns = nodes-both changes more (nodes_after change.0 ns)

kinds-both : (changes more : List (RowChange × ℕ)) (ks : List (ℕ × Kind)) → kinds_after_all (changes ++ more) ks ≡ kinds_after_all more (kinds_after_all changes ks)
kinds-both [] more ks = refl
kinds-both (change ∷ changes) more ks = kinds-both changes more (kinds_after change.0 ks)

new-parts : (changes more : List (RowChange × ℕ)) (ns : List ℕ) → MakeNewNodes ns (changes ++ more) → MakeNewNodes ns changes × MakeNewNodes (nodes_after_all changes ns) more
new-parts [] more ns h = (tt, h)
new-parts (change ∷ changes) more ns h = let rest = new-parts changes more (nodes_after change.0 ns) h.1 in ((h.0, rest.0), rest.1)

within-parts : (ts : List Triple) (changes more : List (RowChange × ℕ)) → AreWithin ts (changes ++ more) → AreWithin ts changes × AreWithin ts more
within-parts ts [] more h = (tt, h)
within-parts ts (change ∷ changes) more h = let rest = within-parts ts changes more h.1 in ((h.0, rest.0), rest.1)

-- an edit is planned, and the rest of those ahead is left
module _ (s d : ResolvedEdit) (ahead : List ResolvedEdit) (is : s ≡ get_or ahead 0 d) (some : 1 ≤ length ahead) where
  parts : row_changes ahead ≡ row_changes (s ∷ []) ++ row_changes (rest_of ahead)
  parts = ap row_changes (opened s d ahead is some) ∙ changes-first s (rest_of ahead)

  pub new-first : (ns : List ℕ) → MakeNewNodes ns (row_changes ahead) → MakeNewNodes ns (row_changes (s ∷ []))
  new-first ns h = (new-parts (row_changes (s ∷ [])) (row_changes (rest_of ahead)) ns (subst (MakeNewNodes ns) parts h)).0

  pub new-rest : (ns later : List ℕ) → later ≡ nodes_after_all (row_changes (s ∷ [])) ns → MakeNewNodes ns (row_changes ahead) → MakeNewNodes later (row_changes (rest_of ahead))
  new-rest ns later e h =
      subst (λ xs. MakeNewNodes xs (row_changes (rest_of ahead))) (sym e)
      (new-parts (row_changes (s ∷ [])) (row_changes (rest_of ahead)) ns (subst (MakeNewNodes ns) parts h)).1

  pub within-first : (ts : List Triple) → AreWithin ts (row_changes ahead) → AreWithin ts (row_changes (s ∷ []))
  within-first ts h = (within-parts ts (row_changes (s ∷ [])) (row_changes (rest_of ahead)) (subst (AreWithin ts) parts h)).0

  pub within-rest : (ts us : List Triple) → Extends ts us → AreWithin ts (row_changes ahead) → AreWithin us (row_changes (rest_of ahead))
  within-rest ts us grown h =
      all-map (λ change. change.1 < diagram_size ts) (λ change. change.1 < diagram_size us) (λ change low. let more = grown.count in omega (arith, low, more)) (row_changes (rest_of ahead))
      (within-parts ts (row_changes (s ∷ [])) (row_changes (rest_of ahead)) (subst (AreWithin ts) parts h)).1

  pub nodes-rest : (ns later all : List ℕ) → later ≡ nodes_after_all (row_changes (s ∷ [])) ns → nodes_after_all (row_changes ahead) ns ≡ all → nodes_after_all (row_changes (rest_of ahead)) later ≡ all
  nodes-rest ns later all e g =
      ap (nodes_after_all (row_changes (rest_of ahead))) e
      ∙ sym (nodes-both (row_changes (s ∷ [])) (row_changes (rest_of ahead)) ns)
      ∙ ap (λ changes. nodes_after_all changes ns) (sym parts)
      ∙ g

  pub kinds-rest : (ks later all : List (ℕ × Kind)) → later ≡ kinds_after_all (row_changes (s ∷ [])) ks → kinds_after_all (row_changes ahead) ks ≡ all → kinds_after_all (row_changes (rest_of ahead)) later ≡ all
  kinds-rest ks later all e g =
      ap (kinds_after_all (row_changes (rest_of ahead))) e
      ∙ sym (kinds-both (row_changes (s ∷ [])) (row_changes (rest_of ahead)) ks)
      ∙ ap (λ changes. kinds_after_all changes ks) (sym parts)
      ∙ g

  pub changes-rest : (done all : List (RowChange × ℕ)) → done ++ row_changes ahead ≡ all → (done ++ row_changes (s ∷ [])) ++ row_changes (rest_of ahead) ≡ all
  changes-rest done all g = append_assoc done (row_changes (s ∷ [])) (row_changes (rest_of ahead)) ∙ ap (λ l. done ++ l) (sym parts) ∙ g

-- changes one after another are those of both
pub also-both : (ts us vs : List Triple) (entries : Dated) (p q r : List Entry) (xs ys : List (RowChange × ℕ)) → AlsoMakes ts us entries p q xs → AlsoMakes us vs entries q r ys → AlsoMakes ts vs entries p r (xs ++ ys)
also-both ts us vs entries p q r xs ys first second = λ changes makes. subst (Makes vs entries r) (append_assoc changes xs ys) (second (changes ++ xs) (first changes makes))

pub also-none : (ts : List Triple) (entries : Dated) (p : List Entry) → AlsoMakes ts ts entries p p []
also-none ts entries p = λ changes makes. subst (Makes ts entries p) (sym (append-nil changes)) makes

-- with nothing ahead all changes are made
pub also-all : (ts us : List Triple) (entries : Dated) (p q : List Entry) (ahead : List ResolvedEdit) (done all : List (RowChange × ℕ)) → length ahead < 1
    → done ++ row_changes ahead ≡ all → AlsoMakes ts us entries p q done → AlsoMakes ts us entries p q all
also-all ts us entries p q [] done all h e makes = subst (AlsoMakes ts us entries p q) (sym (append-nil done) ∙ e) makes
also-all ts us entries p q (s ∷ ahead) done all h e makes = absurd (omega (arith, h))

pub nodes-all : (ahead : List ResolvedEdit) (ns all : List ℕ) → length ahead < 1 → nodes_after_all (row_changes ahead) ns ≡ all → ns ≡ all
nodes-all [] ns all h e = e
nodes-all (s ∷ ahead) ns all h e = absurd (omega (arith, h))

pub kinds-all : (ahead : List ResolvedEdit) (ks all : List (ℕ × Kind)) → length ahead < 1 → kinds_after_all (row_changes ahead) ks ≡ all → ks ≡ all
kinds-all [] ks all h e = e
kinds-all (s ∷ ahead) ks all h e = absurd (omega (arith, h))
