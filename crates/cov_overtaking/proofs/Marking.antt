-- The marks of commits as a history and its table grow.
use Rattle.std.proofs.Common.{◌≡◌, ℕ, zero, suc, ◌+◌, ◌<◌, ◌≤◌, Bool, true, false, ◌&&◌, ◌||◌, max, List, [], ◌∷◌, ◌++◌, length, Option, refl, sym, ap, subst, ◌∙◌, arith}
use Rattle.std.specs.List.{list_any, AllByRecursion, AllZip}
use Rattle.std.proofs.Math.Nat.{max-le}
use Rattle.cov_base.proofs.CallerLemmas.{all-append}
use Rattle.cov_dd.specs.declared.triple.Triple.{Triple}
use Rattle.cov_dd.specs.Diagrams.{diagram_size, span, value_in, Extends, Stands}
use Rattle.cov_dd.proofs.CallerLemmas.{extends_trans}
use Rattle.cov_expr.specs.Formula.{Formula, value, reach}
use Rattle.cov_edit.specs.declared.command.Command.{Command}
use Rattle.cov_edit.specs.declared.command.Command.TheVariants as commands
use Rattle.cov_edit.specs.declared.edit.Edit.{Edit}
use Rattle.cov_edit.specs.declared.sided.Sided.{Sided}
use Rattle.cov_edit.specs.History.{option_count, is_valid_in}
use Rattle.cov_edit.specs.Sides.{condition, conditions, unsided, reach_within}
use Rattle.cov_edit.specs.Touched.{touches, touched, AreRising}
use Rattle.cov_edit.proofs.CallerLemmas.{conditions-low, touched-rising}
use Rattle.cov_history.specs.Sessions.{has_commit}
use Rattle.cov_overtaking.specs.EditConditions.{HaveConditions}
use Rattle.cov_overtaking.specs.Marks.{nodes_within, within_of, mark_nodes, all_mark_nodes, IsMark, AreMarks, AreKept}
use Rattle.cov_overtaking.specs.Overtakers.{IsFirstOf, IsOvertaker}
use Rattle.cov_overtaking.specs.Touches.{are_touches_on, have_node_on, touched_in, touches_within, HaveValues}
use Rattle.cov_overtaking.specs.declared.mark.CommitMark.{CommitMark}
use Rattle.cov_overtaking.specs.declared.touches.Touch.{Touch}
use Rattle.cov_overtaking.proofs.Deciding.{marks-overtaken}
use Rattle.cov_overtaking.proofs.Gathering.{touched-values, common-value}
use Rattle.cov_overtaking.proofs.Joining.{have-later, known-later}
use Rattle.cov_overtaking.proofs.Walking.{within-by}

-- where so many nodes are touched alike, each diagram is of the table
pub within-all : (P : ℕ → Type 0) (count n : ℕ) (each : List ℕ) → P n → AllByRecursion P each → AllByRecursion P (nodes_within count n each)
within-all P count n [] own all = alike count
  where
    alike : (k : ℕ) → AllByRecursion P (nodes_within k n [])
    alike zero = tt
    alike (suc k) = (own, alike k)
within-all P count n (m ∷ each) own all = all

module _ (old new : List Triple) (count more : ℕ) (grown : Extends old new) (few : count ≤ more) where
  pub mark-grown : (p : ℕ) (ambition : Formula ℕ) (ss : List Sided) (m : CommitMark) → IsMark old count p ambition ss m → IsMark new more p ambition ss m
  mark-grown p ambition ss m h = record {
    position = h.position;
    touches = h.touches;
    of_table = known-later old new grown (mark_nodes m) h.of_table;
    long = h.long;
    are = λ node c. have-later old new grown m.touched (within_of m) (within-all (λ n. n < diagram_size old) (length m.touched) m.node m.each h.of_table.0 h.of_table.1) node c ∙ h.are node c;
    named = let low = h.named in omega (arith, low, few);
  }

  -- marks stay so in a table with more entries, more options being declared
  pub marks-grown : (p : ℕ) (later : List Command) (ms : List CommitMark) → AreMarks old count p later ms → AreMarks new more p later ms
  marks-grown p [] ms h = h
  marks-grown p (commands.Option name ∷ later) ms h = marks-grown (p + 1) later ms h
  marks-grown p (commands.Constraint expr ∷ later) ms h = marks-grown (p + 1) later ms h
  marks-grown p (commands.Prefer expr ∷ later) ms h = marks-grown (p + 1) later ms h
  marks-grown p (commands.Default option on ∷ later) ms h = marks-grown (p + 1) later ms h
  marks-grown p (commands.Commit base choice ambition ss ∷ later) [] h = absurd h
  marks-grown p (commands.Commit base choice ambition ss ∷ later) (m ∷ ms) h = (mark-grown (p + 1) ambition ss m h.0, marks-grown (p + 1) later ms h.1)
  marks-grown p (commands.Upgrade ∷ later) ms h = marks-grown (p + 1) later ms h

module _ (ts : List Triple) (count : ℕ) where
  -- a declaration has none
  pub marks-declared : (p : ℕ) (later : List Command) (k : Command) (ms : List CommitMark) → has_commit (k ∷ []) ≡ false → AreMarks ts count p later ms → AreMarks ts count p (later ++ k ∷ []) ms
  marks-declared p [] (commands.Option name) ms none h = h
  marks-declared p [] (commands.Constraint expr) ms none h = h
  marks-declared p [] (commands.Prefer expr) ms none h = h
  marks-declared p [] (commands.Default option on) ms none h = h
  marks-declared p [] (commands.Commit base choice ambition ss) ms none h = absurd (cc)
  marks-declared p (commands.Option name ∷ later) k ms none h = marks-declared (p + 1) later k ms none h
  marks-declared p (commands.Constraint expr ∷ later) k ms none h = marks-declared (p + 1) later k ms none h
  marks-declared p (commands.Prefer expr ∷ later) k ms none h = marks-declared (p + 1) later k ms none h
  marks-declared p (commands.Default option on ∷ later) k ms none h = marks-declared (p + 1) later k ms none h
  marks-declared p (commands.Commit base choice ambition ss ∷ later) k [] none h = absurd h
  marks-declared p (commands.Commit base choice ambition ss ∷ later) k (m ∷ ms) none h = (h.0, marks-declared (p + 1) later k ms none h.1)
  marks-declared p [] commands.Upgrade ms none h = h
  marks-declared p (commands.Upgrade ∷ later) k ms none h = marks-declared (p + 1) later k ms none h

  -- a commit has one more
  pub marks-committed : (q p base : ℕ) (later : List Command) (choice : List Bool) (ambition : Formula ℕ) (ss : List Sided) (last : CommitMark) (ms : List CommitMark) → q ≡ p + length later + 1
      → IsMark ts count q ambition ss last → AreMarks ts count p later ms → AreMarks ts count p (later ++ commands.Commit base choice ambition ss ∷ []) (ms ++ last ∷ [])
  marks-committed q p base [] choice ambition ss last ms at mark h =
      subst (λ xs. AreMarks ts count p (commands.Commit base choice ambition ss ∷ []) (xs ++ last ∷ [])) (sym h)
      (subst (λ k. IsMark ts count k ambition ss last) (let same : q ≡ p + 1 = omega (arith, at) in same) mark, refl)
  marks-committed q p base (commands.Option name ∷ later) choice ambition ss last ms at mark h = marks-committed q (p + 1) base later choice ambition ss last ms (omega (arith, at)) mark h
  marks-committed q p base (commands.Constraint expr ∷ later) choice ambition ss last ms at mark h = marks-committed q (p + 1) base later choice ambition ss last ms (omega (arith, at)) mark h
  marks-committed q p base (commands.Prefer expr ∷ later) choice ambition ss last ms at mark h = marks-committed q (p + 1) base later choice ambition ss last ms (omega (arith, at)) mark h
  marks-committed q p base (commands.Default option on ∷ later) choice ambition ss last ms at mark h = marks-committed q (p + 1) base later choice ambition ss last ms (omega (arith, at)) mark h
  marks-committed q p base (commands.Commit b c a fs ∷ later) choice ambition ss last [] at mark h = absurd h
  marks-committed q p base (commands.Commit b c a fs ∷ later) choice ambition ss last (m ∷ ms) at mark h =
      (h.0, marks-committed q (p + 1) base later choice ambition ss last ms (omega (arith, at)) mark h.1)
  marks-committed q p base (commands.Upgrade ∷ later) choice ambition ss last ms at mark h = marks-committed q (p + 1) base later choice ambition ss last ms (omega (arith, at)) mark h

  -- the nodes of marks are of the table
  pub marks-within : (p : ℕ) (later : List Command) (ms : List CommitMark) → AreMarks ts count p later ms → AllByRecursion (λ n. n < diagram_size ts) (all_mark_nodes ms)
  marks-within p [] ms h = subst (λ ks. AllByRecursion (λ n. n < diagram_size ts) (all_mark_nodes ks)) (sym h) tt
  marks-within p (commands.Option name ∷ later) ms h = marks-within (p + 1) later ms h
  marks-within p (commands.Constraint expr ∷ later) ms h = marks-within (p + 1) later ms h
  marks-within p (commands.Prefer expr ∷ later) ms h = marks-within (p + 1) later ms h
  marks-within p (commands.Default option on ∷ later) ms h = marks-within (p + 1) later ms h
  marks-within p (commands.Commit base choice ambition ss ∷ later) [] h = absurd h
  marks-within p (commands.Commit base choice ambition ss ∷ later) (m ∷ ms) h =
      all-append (λ n. n < diagram_size ts) (mark_nodes m) (all_mark_nodes ms) h.0.of_table (marks-within (p + 1) later ms h.1)
  marks-within p (commands.Upgrade ∷ later) ms h = marks-within (p + 1) later ms h

  -- what they touch rises, with a diagram of the table for each node
  pub marks-kept : (p : ℕ) (later : List Command) (ms : List CommitMark) → AreMarks ts count p later ms → AreKept ts ms
  marks-kept p [] ms h = subst (AreKept ts) (sym h) tt
  marks-kept p (commands.Option name ∷ later) ms h = marks-kept (p + 1) later ms h
  marks-kept p (commands.Constraint expr ∷ later) ms h = marks-kept (p + 1) later ms h
  marks-kept p (commands.Prefer expr ∷ later) ms h = marks-kept (p + 1) later ms h
  marks-kept p (commands.Default option on ∷ later) ms h = marks-kept (p + 1) later ms h
  marks-kept p (commands.Commit base choice ambition ss ∷ later) [] h = absurd h
  marks-kept p (commands.Commit base choice ambition ss ∷ later) (m ∷ ms) h = (
    record { rising = subst AreRising (sym h.0.touches) (touched-rising (unsided ss)).0; of_table = h.0.of_table; long = h.0.long },
    marks-kept (p + 1) later ms h.1,
  )
  marks-kept p (commands.Upgrade ∷ later) ms h = marks-kept (p + 1) later ms h

-- what edits touch rises
pub touched-own : (es : List Edit) (nodes nodes' : List ℕ) → nodes' ≡ nodes → nodes ≡ touched es → AreRising nodes'
touched-own es nodes nodes' e f = subst AreRising (sym (e ∙ f)) (touched-rising es).0

-- the nodes of edits within a node have its values and those of the sides
pub conditions-values : (old new : List Triple) (within : ℕ) (f : List Bool → Bool) (ns : List ℕ) (ss : List Sided) → ((c : List Bool) → value_in old within c ≡ f c)
    → HaveConditions old new within ns ss → HaveValues new (λ s c. f c && value s.side c) ns ss
conditions-values old new within f [] [] own h = tt
conditions-values old new within f [] (s ∷ ss) own h = absurd h
conditions-values old new within f (n ∷ ns) [] own h = absurd h
conditions-values old new within f (n ∷ ns) (s ∷ ss) own h = (λ c. h.0.value c ∙ ap (λ b. b && value s.side c) (own c), conditions-values old new within f ns ss own h.1)

pub conditions-count : (old new : List Triple) (within : ℕ) (ns : List ℕ) (ss : List Sided) → HaveConditions old new within ns ss → length ns ≡ length ss
conditions-count old new within [] [] h = refl
conditions-count old new within [] (s ∷ ss) h = absurd h
conditions-count old new within (n ∷ ns) [] h = absurd h
conditions-count old new within (n ∷ ns) (s ∷ ss) h = ap suc (conditions-count old new within ns ss h.1)

pub conditions-known : (old new : List Triple) (within : ℕ) (ns : List ℕ) (ss : List Sided) → HaveConditions old new within ns ss → AllByRecursion (λ n. n < diagram_size new) ns
conditions-known old new within [] [] h = tt
conditions-known old new within [] (s ∷ ss) h = absurd h
conditions-known old new within (n ∷ ns) [] h = absurd h
conditions-known old new within (n ∷ ns) (s ∷ ss) h = (h.0.known, conditions-known old new within ns ss h.1)

-- where the node stands for an ambition, each stands for a condition
pub conditions-stand : (old new : List Triple) (within count : ℕ) (ambition : Formula ℕ) (ns : List ℕ) (ss : List Sided) → Stands old within 0 count (value ambition) → reach_within ambition ss ≤ count
    → HaveConditions old new within ns ss → AllZip (λ f n. Stands new n 0 count (value f)) (conditions ambition ss) ns
conditions-stand old new within count ambition ns ss stands low h = each ns ss (conditions-low count ambition ss low) h
  where
    each : (ns : List ℕ) (ss : List Sided) → AllByRecursion (λ w. reach w ≤ count) (conditions ambition ss) → HaveConditions old new within ns ss → AllZip (λ f n. Stands new n 0 count (value f)) (conditions ambition ss) ns
    each [] [] k h = tt
    each [] (s ∷ ss) k h = absurd h
    each (n ∷ ns) [] k h = absurd h
    each (n ∷ ns) (s ∷ ss) k h = (
      record {
        within = h.0.known;
        above = omega arith;
        below =
            let all = h.0.below in
            let own : span old within ≤ count = stands.below in
            let side : reach s.side ≤ count = let both = k.0 in omega (arith, both) in
            let most : max (span old within) (reach s.side) ≤ count = max-le own side in
            omega (arith, all, most);
        value = λ c. h.0.value c ∙ ap (λ b. b && value s.side c) (stands.value c);
      },
      each ns ss k.1 h.1,
    )

-- a mark that is made of the nodes of a commit's edits is the commit's
pub mark-made : (old mid new : List Triple) (count p within : ℕ) (ns : List ℕ) (ambition : Formula ℕ) (ss : List Sided) (m : CommitMark) → ((c : List Bool) → value_in old within c ≡ value ambition c)
    → HaveConditions old mid within ns ss → m.position ≡ p → m.touched ≡ touched (unsided ss) → AllByRecursion (λ n. n < diagram_size new) (mark_nodes m) → length (within_of m) ≡ length m.touched
    → ((node : ℕ) (c : List Bool) → have_node_on new m.touched (within_of m) node c ≡ touched_in mid ns (unsided ss) node c) → reach_within ambition ss ≤ count → IsMark new count p ambition ss m
mark-made old mid new count p within ns ambition ss m own h position touches of_table long are named = record {
  position = position;
  touches = touches;
  of_table = of_table;
  long = long;
  are = λ node c. are node c ∙ touched-values mid (λ s c. value ambition c && value s.side c) ns ss (conditions-values old mid within (value ambition) ns ss own h) node c;
  named = named;
}

-- a table that grows three and four times
pub grown-thrice : (ts a b c : List Triple) → Extends ts a → Extends a b → Extends b c → Extends ts c
grown-thrice ts a b c x y z = extends_trans ts b c (extends_trans ts a b x y) z

pub grown-four : (ts a b c d : List Triple) → Extends ts a → Extends a b → Extends b c → Extends c d → Extends ts d
grown-four ts a b c d x y z w = extends_trans ts c d (grown-thrice ts a b c x y z) w

-- the first of marks that meets the edits' touches is that of the first commit that overtakes
pub first-overtaker : (ts ts' us mid new : List Triple) (valid node within : ℕ) (commits : List CommitMark) (base : ℕ) (ambition : Formula ℕ) (ss : List Sided) (es : List Edit) (ns nodes each : List ℕ) (only : ℕ) (own : List Touch) (found : Option ℕ)
    → valid < diagram_size ts → Extends ts ts' → Extends ts' us → Extends us mid → Extends mid new → ((c : List Bool) → value_in ts' node c ≡ value ambition c)
    → ((c : List Bool) → value_in us within c ≡ (value_in ts' valid c && value_in ts' node c)) → HaveConditions us mid within ns ss → es ≡ unsided ss
    → length (nodes_within (length nodes) only each) ≡ length nodes
    → ((x : ℕ) (c : List Bool) → have_node_on new nodes (nodes_within (length nodes) only each) x c ≡ touched_in mid ns es x c) → own ≡ touches_within nodes only each
    → IsFirstOf new base own commits found → IsOvertaker ts valid commits base ambition ss found
first-overtaker ts ts' us mid new valid node within commits base ambition ss es ns nodes each only own found known grown more further last of both h same long are is first = λ history most named low marks all.
    marks-overtaken history new commits base ambition ss own found most named low
    (marks-grown ts new (option_count history) (option_count history) (grown-four ts ts' us mid new grown more further last) (omega arith) 0 history commits marks)
    (λ x c.
    ap (λ ys. are_touches_on new ys x c) (is ∙ within-by nodes only each long) ∙ are x c ∙ ap (λ fs. touched_in mid ns fs x c) same
    ∙ touched-values mid (λ s c. (is_valid_in history c && value ambition c) && value s.side c) ns ss
    (conditions-values us mid within (λ c. is_valid_in history c && value ambition c) ns ss (λ c. both c ∙ (λ i. (grown.value valid known c ∙ all c) i && of c i)) h) x c
    ∙ turned history x c ss
    ∙ common-value (is_valid_in history c) (λ s. touches x s.edit) (λ s. value (condition ambition s) c) ss)
    first
  where
    assoc : (a b d : Bool) → ((a && b) && d) ≡ (a && (b && d))
    assoc true b d = refl
    assoc false b d = refl

    turned : (history : List Command) (x : ℕ) (c : List Bool) (ss : List Sided)
        → list_any (λ s. touches x s.edit && ((is_valid_in history c && value ambition c) && value s.side c)) ss ≡ list_any (λ s. touches x s.edit && (is_valid_in history c && value (condition ambition s) c)) ss
    turned history x c [] = refl
    turned history x c (s ∷ ss) = λ i. (touches x s.edit && assoc (is_valid_in history c) (value ambition c) (value s.side c) i) || turned history x c ss i
