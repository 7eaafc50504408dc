-- A file takes inserts one after the other.
use Rattle.std.proofs.Common.{◌≡◌, ℕ, suc, ◌+◌, ◌<◌, ◌≤◌, Bool, true, false, cond, ◌||◌, ◌&&◌, not, nat_eq, List, [], ◌∷◌, length, None, refl, ap, ◌∙◌, arith}
use Rattle.std.specs.List.{list_any}
use Rattle.std.proofs.lemmas.Bool.Decides.{nat_tests}
use Rattle.cov_base.specs.Addresses.{IsTable, address_in, line_of, placed, stands_before}
use Rattle.cov_base.specs.declared.number.NodeRef.TheVariants as nodes
use Rattle.cov_base.specs.declared.number.LineRef.{LineRef}
use Rattle.cov_base.specs.declared.number.LineRef.TheVariants as lines
use Rattle.cov_base.proofs.CallerLemmas.{line_of-in, or_left_comm}
use Rattle.cov_edit.specs.declared.edit.Edit.TheVariants as edits
use Rattle.cov_edit.specs.Numbering.{Numbers, Inserted, numbered_from}
use Rattle.cov_edit.specs.Variant.{Variant, Line, line_address, edited}
use Rattle.cov_view.specs.References.{is_head}
use Rattle.cov_view.specs.Refusals.{when, shows_node, shows_line, is_dir, refusal, refused_at, refused_from}
use Rattle.cov_view.specs.declared.fault.EditFault.TheVariants as faults
use Rattle.cov_view.proofs.CallerLemmas.{first-not_when}
use Rattle.cov_cond.specs.Importing.{chained}

any-placed : {X : Type 0} (address : X → List ℕ) (t : X → Bool) (x : X) (xs : List X) → list_any t (placed address x xs) ≡ (t x || list_any t xs)
any-placed address t x [] = refl
any-placed address t x (y ∷ ys) = at (stands_before (address x) (address y)) (any-placed address t x ys)
  where
    at : (b : Bool) → list_any t (placed address x ys) ≡ (t x || list_any t ys) → list_any t (cond b (x ∷ y ∷ ys) (y ∷ placed address x ys)) ≡ (t x || (t y || list_any t ys))
    at true rest = refl
    at false rest = ap (λ b. t y || b) rest ∙ or_left_comm (t y) (t x) (list_any t ys)

module _ (ns : Numbers) (file : ℕ) where
  -- an insert behind a line that is there is taken
  insert-taken : (v : Variant) (after : LineRef) (text : List ℕ) → shows_node ns v (nodes.Old file) ≡ true → is_dir v.rows file ≡ false → (is_head after || shows_line ns v file after) ≡ true
      → refusal ns v (edits.Insert (nodes.Old file) after text) ≡ None
  insert-taken v after text there a_file anchored =
      first-not_when (not (shows_node ns v (nodes.Old file))) faults.NoSuchNode (when (is_dir v.rows file) faults.NotFile ∷ when (not (is_head after || shows_line ns v file after)) faults.NoSuchLine ∷ []) (ap not there)
      ∙ first-not_when (is_dir v.rows file) faults.NotFile (when (not (is_head after || shows_line ns v file after)) faults.NoSuchLine ∷ []) a_file
      ∙ first-not_when (not (is_head after || shows_line ns v file after)) faults.NoSuchLine [] (ap not anchored)

  module _ (t : List (List ℕ)) (table : IsTable t) (node : ℕ) where
    -- the line of an insert is there afterwards
    line-there : (v : Variant) (line i : ℕ) (text : List ℕ) → line < length t → line ≡ length ns.addresses + i
        → shows_line ns (edited v (Inserted file (address_in t (line + 1)) text)) file (lines.New i) ≡ true
    line-there v line i text below e =
        any-placed line_address test new v.lines
        ∙ (λ j. (own_file j && own_line j) || list_any test v.lines)
      where
        test : Line → Bool
        test l = nat_eq l.file file && nat_eq (line_of l.address) (length ns.addresses + 1 + i)

        new : Line
        new = record { file = file; address = address_in t (line + 1); text = text }

        own_file : nat_eq file file ≡ true
        own_file = grind (arith, nat_tests)

        number : line_of (address_in t (line + 1)) ≡ length ns.addresses + 1 + i
        number =
            let one : line + 1 ≡ suc line = omega arith in
            let last : suc line ≡ length ns.addresses + 1 + i = omega (arith, e) in
            ap (λ n. line_of (address_in t n)) one ∙ line_of-in t line table below ∙ last

        own_line : nat_eq (line_of (address_in t (line + 1))) (length ns.addresses + 1 + i) ≡ true
        own_line = grind (arith, nat_tests, number)

    -- inserts one after the other are taken
    pub chain-taken : (k : ℕ) (v : Variant) (line i : ℕ) (after : LineRef) (texts : List (List ℕ)) → line + length texts ≤ length t → line ≡ length ns.addresses + i
        → shows_node ns v (nodes.Old file) ≡ true → is_dir v.rows file ≡ false → (is_head after || shows_line ns v file after) ≡ true
        → refused_from ns v k (chained (nodes.Old file) after i texts) (numbered_from ns t node line (chained (nodes.Old file) after i texts)) ≡ None
    chain-taken k v line i after [] below e there a_file anchored = refl
    chain-taken k v line i after (text ∷ texts) below e there a_file anchored =
        let next : Variant = edited v (Inserted file (address_in t (line + 1)) text) in
        ap (λ o. refused_at k o (refused_from ns next (k + 1) (chained (nodes.Old file) (lines.New i) (i + 1) texts) (numbered_from ns t node (line + 1) (chained (nodes.Old file) (lines.New i) (i + 1) texts))))
        (insert-taken v after text there a_file anchored)
        ∙ chain-taken (k + 1) next (line + 1) (i + 1) (lines.New i) texts (omega (arith, below)) (omega (arith, e)) there a_file
        (line-there v line i text (omega (arith, below)) e)
