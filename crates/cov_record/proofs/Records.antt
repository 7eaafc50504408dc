-- Commands in bytes, both ways.
use Rattle.std.proofs.Common.{◌≡◌, ℕ, zero, suc, ◌+◌, ◌<◌, ◌≤◌, ◌^◌, Bool, true, false, nat_lt, List, [], ◌∷◌, ◌++◌, length, map, drop, get_or, Some, None, refl, sym, ap, subst, ◌∙◌, arith, append_assoc}
use Rattle.std.specs.Prelude.{Result, Ok, Err, IfOk, IsErrOf}
use Rattle.cov_base.specs.Spelling.{is_option_name}
use Rattle.cov_base.specs.declared.limits.TheConstants.{CHOICE_WIDTH}
use Rattle.cov_base.specs.declared.error.MemoryOr.{MemoryOr}
use Rattle.cov_base.specs.declared.error.MemoryOr.TheVariants.{Refused}
use Rattle.cov_record.specs.declared.fault.NotARecord.{NotARecord}
use Rattle.std.specs.Int.{w32, to_be_bytes}
use Rattle.std.proofs.lemmas.Option.{none-some, same_Some}
use Rattle.std.proofs.lemmas.Bool.{and_from, and_parts, le-leb, leb-true, lt-ltb, ltb-true}
use Rattle.std.specs.List.{list_all}
use Rattle.std.proofs.lemmas.List.{append-nil}
use Rattle.cov_expr.specs.Formula.{Formula}
use Rattle.cov_edit.specs.Fits.{fits_expr, fits_with_side}
use Rattle.cov_edit.specs.declared.sided.Sided.{Sided}
use Rattle.cov_edit.specs.declared.command.Command.{Command}
use Rattle.cov_edit.specs.declared.command.Command.TheVariants as commands
use Rattle.cov_record.specs.FitsRecord.{FitsRecord, FitsCounts}
use Rattle.cov_record.specs.Laws.{IsRecordOf, IsNoRecord, OneRecord, OneCommand, OneHistory}
use Rattle.cov_record.specs.Payload.{bit, choice_spelling, expression_spelling, name_spelling, commit_byte, sided_spelling, commit_spelling, payload}
use Rattle.cov_record.specs.Reading.{Front, given, alone, GivesAlone, front_u8, front_u32, front_bit, front_choice, front_option_name, front_expression, front_sided, front_rest, front_ambition, front_commit, front_option, front_constraint, front_prefer, front_default, command_of, front_command}
use Rattle.cov_record.specs.SideRuns.{has_sides}
use Rattle.cov_record.proofs.Fronts.{Begins, begins_with, pair_of, given_some, given_true, behind_some, behind_at}
use Rattle.cov_record.proofs.Bytes.{u8_forth, u32_back, u32_forth, spelt_back, spelt_forth}
use Rattle.cov_record.proofs.Forests.{expression_back, expression_forth}
use Rattle.cov_record.proofs.Parts.{bit_back, bit_forth, choice_back, choice_forth}
use Rattle.cov_record.proofs.Sides.{sided_back, sided_forth}

-- the byte of a commit tells whether the sides of its edits are spelt
commit_told : (t : Bool) (bs : List ℕ) → command_of (commit_byte t) bs ≡ front_commit t bs
commit_told true bs = refl
commit_told false bs = refl

commit_back : (t : Bool) (base : ℕ) (choice : List Bool) (ambition : Formula ℕ) (ss : List Sided) (r : List ℕ) → base < 2 ^ 32 → length choice ≤ CHOICE_WIDTH → fits_expr ambition ≡ true
    → front_sided t (sided_spelling t ss ++ r) ≡ Some (ss, r) → front_command (commit_spelling t base choice ambition ss ++ r) ≡ Some (commands.Commit base choice ambition ss, r)
commit_back t base choice ambition ss r few width fits edits =
    let last = sided_spelling t ss ++ r in
    let third = expression_spelling ambition ++ last in
    let second = choice_spelling choice ++ third in
    commit_told t ((to_be_bytes w32 base ++ (choice_spelling choice ++ (expression_spelling ambition ++ sided_spelling t ss))) ++ r)
    ∙ ap (front_commit t)
    (append_assoc (to_be_bytes w32 base) (choice_spelling choice ++ (expression_spelling ambition ++ sided_spelling t ss)) r
    ∙ ap (λ bs. to_be_bytes w32 base ++ bs) (append_assoc (choice_spelling choice) (expression_spelling ambition ++ sided_spelling t ss) r
    ∙ ap (λ bs. choice_spelling choice ++ bs) (append_assoc (expression_spelling ambition) (sided_spelling t ss) r)))
    ∙ behind_at (front_u32 (to_be_bytes w32 base ++ second)) _ _ base second (u32_back base second few)
    (behind_at (front_choice second) _ _ choice third (choice_back choice third width)
    (behind_at (front_expression third) _ _ ambition last (expression_back ambition last fits)
    (behind_at (front_sided t last) _ _ ss r edits refl)))

pub command_back : (c : Command) (r : List ℕ) → FitsRecord c → front_command (payload c ++ r) ≡ Some (c, r)
command_back (commands.Option name) r h = behind_at (front_option_name (name_spelling name ++ r)) _ _ name r (spelt_back is_option_name name r h.0) refl
command_back (commands.Constraint e) r h = behind_at (front_expression (expression_spelling e ++ r)) _ _ e r (expression_back e r h.0) refl
command_back (commands.Prefer e) r h = behind_at (front_expression (expression_spelling e ++ r)) _ _ e r (expression_back e r h.0) refl
command_back (commands.Default o on) r h =
    behind_at (given (nat_lt o CHOICE_WIDTH) o (bit on ∷ r)) _ _ o (bit on ∷ r) (given_true (nat_lt o CHOICE_WIDTH) o (bit on ∷ r) (lt-ltb o CHOICE_WIDTH (omega (arith, leb-true (o + 1) CHOICE_WIDTH h.0))))
    (behind_at (front_bit (bit on ∷ r)) _ _ on r (bit_back on r tt) refl)
command_back (commands.Commit base choice ambition ss) r h =
    let own = and_parts (fits_expr ambition) (list_all fits_with_side ss) h.0 in
    commit_back (has_sides ss) base choice ambition ss r h.1.0 h.1.1 own.0 (sided_back (has_sides ss) ss r refl h.1.2 own.1 h.1.3)
command_back commands.Upgrade r h = refl

option_forth : (bs : List ℕ) (x : Command) (r : List ℕ) → front_option bs ≡ Some (x, r) → Begins payload FitsRecord (1 ∷ bs) x r
option_forth bs x r h =
    let a = behind_some (front_option_name bs) _ x r h in
    let n = spelt_forth is_option_name bs a.0 a.1 a.2 in
    begins_with payload FitsRecord (commands.Option a.0) x a.1 r (1 ∷ bs) ((n.0, tt), ap (λ bs. 1 ∷ bs) n.1) a.3

constraint_forth : (bs : List ℕ) (x : Command) (r : List ℕ) → front_constraint bs ≡ Some (x, r) → Begins payload FitsRecord (2 ∷ bs) x r
constraint_forth bs x r h =
    let a = behind_some (front_expression bs) _ x r h in
    let e = expression_forth bs a.0 a.1 a.2 in
    begins_with payload FitsRecord (commands.Constraint a.0) x a.1 r (2 ∷ bs) ((e.0, tt), ap (λ bs. 2 ∷ bs) e.1) a.3

prefer_forth : (bs : List ℕ) (x : Command) (r : List ℕ) → front_prefer bs ≡ Some (x, r) → Begins payload FitsRecord (3 ∷ bs) x r
prefer_forth bs x r h =
    let a = behind_some (front_expression bs) _ x r h in
    let e = expression_forth bs a.0 a.1 a.2 in
    begins_with payload FitsRecord (commands.Prefer a.0) x a.1 r (3 ∷ bs) ((e.0, tt), ap (λ bs. 3 ∷ bs) e.1) a.3

default_forth : (bs : List ℕ) (x : Command) (r : List ℕ) → front_default bs ≡ Some (x, r) → Begins payload FitsRecord (4 ∷ bs) x r
default_forth bs x r h =
    let a = behind_some (front_u8 bs) _ x r h in
    let b = behind_some (given (nat_lt a.0 CHOICE_WIDTH) a.0 a.1) _ x r a.3 in
    let g = given_some (nat_lt a.0 CHOICE_WIDTH) a.0 b.0 a.1 b.1 b.2 in
    let d = behind_some (front_bit b.1) _ x r b.3 in
    let w = bit_forth b.1 d.0 d.1 d.2 in
    let k = ltb-true a.0 CHOICE_WIDTH g.0 in
    begins_with payload FitsRecord (commands.Default b.0 d.0) x d.1 r (4 ∷ bs)
    ((le-leb (b.0 + 1) CHOICE_WIDTH (omega (arith, subst (λ o. o < CHOICE_WIDTH) g.1 k)), tt), ap (λ bs. 4 ∷ bs) (u8_forth bs a.0 a.1 a.2 ∙ (λ i. g.1 i ∷ g.2 i) ∙ ap (λ bs. b.0 ∷ bs) w.1)) d.3

commit_forth : (t : Bool) (bs : List ℕ) (x : Command) (r : List ℕ) → front_commit t bs ≡ Some (x, r) → Begins payload FitsRecord (commit_byte t ∷ bs) x r
commit_forth t bs x r h =
    let a = behind_some (front_u32 bs) _ x r h in
    let b = behind_some (front_choice a.1) (front_ambition t a.0) x r a.3 in
    let d = behind_some (front_expression b.1) (front_rest t a.0 b.0) x r b.3 in
    let f = behind_some (front_sided t d.1) _ x r d.3 in
    let u = u32_forth bs a.0 a.1 a.2 in
    let c = choice_forth a.1 b.0 b.1 b.2 in
    let e = expression_forth b.1 d.0 d.1 d.2 in
    let w = sided_forth t d.1 f.0 f.1 f.2 in
    begins_with payload FitsRecord (commands.Commit a.0 b.0 d.0 f.0) x f.1 r (commit_byte t ∷ bs) (
      (
        and_from (fits_expr d.0) (list_all fits_with_side f.0) e.0 w.fits,
        (u.0, c.0, subst (λ t. FitsCounts t f.0) (sym w.sides) w.counts, w.references),
      ),
      ap (λ bs. commit_byte t ∷ bs)
          (u.1 ∙ ap (λ bs. to_be_bytes w32 a.0 ++ bs) (c.1 ∙ ap (λ bs. choice_spelling b.0 ++ bs) (e.1 ∙ ap (λ bs. expression_spelling d.0 ++ bs) w.bytes
          ∙ sym (append_assoc (expression_spelling d.0) (sided_spelling t f.0) f.1))
          ∙ sym (append_assoc (choice_spelling b.0) (expression_spelling d.0 ++ sided_spelling t f.0) f.1))
          ∙ sym (append_assoc (to_be_bytes w32 a.0) (choice_spelling b.0 ++ (expression_spelling d.0 ++ sided_spelling t f.0)) f.1))
          ∙ ap (λ t. commit_spelling t a.0 b.0 d.0 f.0 ++ f.1) (sym w.sides),
    ) f.3

upgrade_forth : (bs : List ℕ) (x : Command) (r : List ℕ) → command_of 7 bs ≡ Some (x, r) → Begins payload FitsRecord (7 ∷ bs) x r
upgrade_forth bs x r h = begins_with payload FitsRecord commands.Upgrade x bs r (7 ∷ bs) ((refl, tt), refl) h

command_of_forth : (tag : ℕ) (bs : List ℕ) (x : Command) (r : List ℕ) → command_of tag bs ≡ Some (x, r) → Begins payload FitsRecord (tag ∷ bs) x r
command_of_forth zero bs x r h = absurd (none-some (x, r) h)
command_of_forth (suc zero) bs x r h = option_forth bs x r h
command_of_forth (suc (suc zero)) bs x r h = constraint_forth bs x r h
command_of_forth (suc (suc (suc zero))) bs x r h = prefer_forth bs x r h
command_of_forth (suc (suc (suc (suc zero)))) bs x r h = default_forth bs x r h
command_of_forth (suc (suc (suc (suc (suc zero))))) bs x r h = commit_forth false bs x r h
command_of_forth (suc (suc (suc (suc (suc (suc zero)))))) bs x r h = commit_forth true bs x r h
command_of_forth (suc (suc (suc (suc (suc (suc (suc zero))))))) bs x r h = upgrade_forth bs x r h
command_of_forth (suc (suc (suc (suc (suc (suc (suc (suc n)))))))) bs x r h = absurd (none-some (x, r) h)

pub command_forth : (bs : List ℕ) (x : Command) (r : List ℕ) → front_command bs ≡ Some (x, r) → FitsRecord x × (bs ≡ payload x ++ r)
command_forth bs x r h =
    let a = behind_some (front_u8 bs) command_of x r h in
    let w = command_of_forth a.0 a.1 x r a.3 in
    (w.0, u8_forth bs a.0 a.1 a.2 ∙ w.1)

pub one_record : OneRecord
one_record a b r s ha hb e = pair_of a b r s (sym (command_back a r ha) ∙ ap front_command e ∙ command_back b s hb)

-- a command's record is read as the command
pub record_back : (c : Command) (bs : List ℕ) → IsRecordOf bs c → alone (front_command bs) ≡ Some c
record_back c bs h = ap (λ f. alone f) (ap front_command (h.1 ∙ sym (append-nil (payload c))) ∙ command_back c [] h.0)

-- what is read alone is the record of the command
pub record_forth : (f : Front Command) (bs : List ℕ) (c : Command) → front_command bs ≡ f → alone f ≡ Some c → IsRecordOf bs c
record_forth None bs c e h = absurd (none-some c h)
record_forth (Some p) bs c e h = at p.0 p.1 e h
  where
    at : (x : Command) (r : List ℕ) → front_command bs ≡ Some (x, r) → alone {X = Command} (Some (x, r)) ≡ Some c → IsRecordOf bs c
    at x (b ∷ r) e h = absurd (none-some c h)
    at x [] e h =
        let w = command_forth bs x [] e in
        let p = same_Some x c h in
        (subst FitsRecord p w.0, w.1 ∙ append-nil (payload x) ∙ ap payload p)

pub no_record : (bs : List ℕ) → alone (front_command bs) ≡ None → IsNoRecord bs
no_record bs h c w = none-some c (sym h ∙ record_back c bs w)

-- what decoding gives
pub decoded : (bs : List ℕ) (result : Result Command (MemoryOr NotARecord)) → GivesAlone (front_command bs) result → IfOk result (λ c. IsRecordOf bs c)
decoded bs (Ok c) h = record_forth (front_command bs) bs c refl h
decoded bs (Err e) h = tt

pub undecoded : (bs : List ℕ) (result : Result Command (MemoryOr NotARecord)) → GivesAlone (front_command bs) result → IsErrOf result (Refused (record {})) → IsNoRecord bs
undecoded bs result h e = no_record bs (subst (GivesAlone (front_command bs)) e h)

pub one_command : OneCommand
one_command bs a b ha hb = (one_record a b [] [] ha.0 hb.0 (ap (λ bs. bs ++ []) (sym ha.1 ∙ hb.1))).0

cons_head : (x y : List ℕ) (xs ys : List (List ℕ)) → x ∷ xs ≡ y ∷ ys → (x ≡ y) × (xs ≡ ys)
cons_head x y xs ys h = (ap (λ l. get_or l 0 []) h, ap (drop 1) h)

pub one_history : OneHistory
one_history [] [] ha hb h = refl
one_history [] (b ∷ bs) ha hb h = absurd (omega (arith, ap length h))
one_history (a ∷ as') [] ha hb h = absurd (omega (arith, ap length h))
one_history (a ∷ as') (b ∷ bs) ha hb h =
    let p = cons_head (payload a) (payload b) (map payload as') (map payload bs) h in
    let head = one_command (payload a) a b (ha.0, refl) (hb.0, p.0) in
    let tail = one_history as' bs ha.1 hb.1 p.1 in
    λ i. head i ∷ tail i
