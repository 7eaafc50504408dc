-- Inserts one after the other, and more of them.
use Rattle.std.proofs.Common.{◌≡◌, ℕ, suc, ◌+◌, ◌≤◌, List, [], ◌∷◌, ◌++◌, length, get_or, append_assoc, sym, ap, ◌∙◌, arith}
use Rattle.std.proofs.lemmas.List.{map-append}
use Rattle.cov_base.specs.declared.number.NodeRef.{NodeRef}
use Rattle.cov_base.specs.declared.number.LineRef.{LineRef}
use Rattle.cov_base.specs.declared.number.LineRef.TheVariants as lines
use Rattle.cov_base.proofs.CallerLemmas.{opened, rest_of}
use Rattle.cov_expr.specs.Formula.{True}
use Rattle.cov_edit.specs.declared.edit.Edit.TheVariants as edits
use Rattle.cov_edit.specs.declared.sided.Sided.{Sided}
use Rattle.cov_edit.specs.Sides.{sided}
use Rattle.cov_cond_text.specs.declared.run.Run.{Run}
use Rattle.cov_cond.specs.Committing.{anchor_behind, plain_count}
use Rattle.cov_cond.specs.Importing.{chained, meant_for_all, plain_in, plain_texts}

module _ (file : NodeRef) (first : LineRef) where
  -- the inserts of so many texts behind others
  abbrev pub inserts : ℕ → List (List ℕ) → List Sided
  inserts k texts = meant_for_all (chained file (anchor_behind first k) k texts)

  chained-append : (k m : ℕ) (xs ys : List (List ℕ)) → m ≡ k + length xs
      → chained file (anchor_behind first k) k (xs ++ ys) ≡ chained file (anchor_behind first k) k xs ++ chained file (anchor_behind first m) m ys
  chained-append k m [] ys e = let same : k ≡ m = omega (arith, e) in ap (λ n. chained file (anchor_behind first n) n ys) same
  chained-append k m (x ∷ xs) ys e =
      ap (λ es. edits.Insert file (anchor_behind first k) x ∷ es)
      (ap (λ a. chained file a (k + 1) (xs ++ ys)) (sym behind) ∙ chained-append (k + 1) m xs ys (omega (arith, e)) ∙ ap (λ a. chained file a (k + 1) xs ++ chained file (anchor_behind first m) m ys) behind)
    where
      behind : anchor_behind first (k + 1) ≡ lines.New k
      behind = let next : k + 1 ≡ suc k = omega arith in ap (anchor_behind first) next

  inserts-append : (k m : ℕ) (xs ys : List (List ℕ)) → m ≡ k + length xs → inserts k (xs ++ ys) ≡ inserts k xs ++ inserts m ys
  inserts-append k m xs ys e = ap meant_for_all (chained-append k m xs ys e) ∙ map-append (sided True) (chained file (anchor_behind first k) k xs) (chained file (anchor_behind first m) m ys)

  -- the inserts of some texts, and then those of the others
  then-inserts : (now new whole : List Sided) (k m : ℕ) (xs ys : List (List ℕ)) → m ≡ k + length xs → now ++ inserts k (xs ++ ys) ≡ whole → new ≡ now ++ inserts k xs → new ++ inserts m ys ≡ whole
  then-inserts now new whole k m xs ys e h added =
      ap (λ ss. ss ++ inserts m ys) added ∙ append_assoc now (inserts k xs) (inserts m ys) ∙ ap (λ ss. now ++ ss) (sym (inserts-append k m xs ys e)) ∙ h

  -- the first text and then the others
  pub text-inserted : (now new whole : List Sided) (k m : ℕ) (x d : List ℕ) (ahead : List (List ℕ)) → x ≡ get_or ahead 0 d → 1 ≤ length ahead → m ≡ k + 1
      → now ++ inserts k ahead ≡ whole → new ≡ now ++ meant_for_all (edits.Insert file (anchor_behind first k) x ∷ []) → new ++ inserts m (rest_of ahead) ≡ whole
  text-inserted now new whole k m x d ahead is some e h added =
      then-inserts now new whole k m (x ∷ []) (rest_of ahead) e (ap (λ xs. now ++ inserts k xs) (sym (opened x d ahead is some)) ∙ h) added

  -- the first run and then the others
  pub run-inserted : (now new whole : List Sided) (k m : ℕ) (r d : Run) (ahead : List Run) → r ≡ get_or ahead 0 d → 1 ≤ length ahead → m ≡ k + plain_count r
      → now ++ inserts k (plain_texts ahead) ≡ whole → new ≡ now ++ inserts k (plain_in r.conditions r.texts) → new ++ inserts m (plain_texts (rest_of ahead)) ≡ whole
  run-inserted now new whole k m r d ahead is some e h added =
      then-inserts now new whole k m (plain_in r.conditions r.texts) (plain_texts (rest_of ahead)) e (ap (λ rs. now ++ inserts k (plain_texts rs)) (sym (opened r d ahead is some)) ∙ h) added
