-- Choices, references and edits in bytes, both ways.
use Rattle.std.proofs.Common.{◌≡◌, ℕ, zero, suc, ◌<◌, ◌≤◌, ◌^◌, Bool, true, false, nat_le, List, [], ◌∷◌, ◌++◌, length, map, Some, refl, sym, ap, subst, ◌∙◌, append_assoc}
use Rattle.std.specs.List.{list_all, AllByRecursion}
use Rattle.std.specs.Int.{w32, to_be_bytes}
use Rattle.std.proofs.lemmas.Option.{none-some}
use Rattle.std.proofs.lemmas.Bool.{and_from, and_parts, le-leb, leb-true}
use Rattle.cov_base.specs.Spelling.{is_name}
use Rattle.cov_base.specs.declared.limits.TheConstants.{CHOICE_WIDTH}
use Rattle.cov_base.specs.declared.number.Kind.{Kind}
use Rattle.cov_base.specs.declared.number.Kind.TheVariants.{File, Dir}
use Rattle.cov_base.specs.declared.number.NodeRef.{NodeRef}
use Rattle.cov_base.specs.declared.number.NodeRef.TheVariants as nodes
use Rattle.cov_base.specs.declared.number.LineRef.{LineRef}
use Rattle.cov_base.specs.declared.number.LineRef.TheVariants as lines
use Rattle.cov_edit.specs.declared.edit.Edit.{Edit}
use Rattle.cov_edit.specs.declared.edit.Edit.TheVariants as edits
use Rattle.cov_edit.specs.EditFits.{fits_edit}
use Rattle.cov_record.specs.FitsRecord.{FitsNode, FitsLine, FitsReferences, FitsEdit}
use Rattle.cov_record.specs.Payload.{bit, run_of, choice_spelling, kind_byte, node_spelling, line_spelling, name_spelling, text_spelling, edit_spelling, all_edit_spelling, edits_spelling}
use Rattle.cov_record.specs.Reading.{behind, given, front_u8, front_u32, bit_of, front_bit, front_bits, bits_counted, front_choice, kind_of, front_kind, node_ref_of, front_node, line_ref_of, front_line, front_name, front_text, front_new, front_insert, front_delete, front_rename, front_move, front_remove, edit_of, front_edit, front_edits, front_counted}
use Rattle.cov_record.proofs.Fronts.{Begins, begins_with, pair_of, given_some, given_true, behind_some, behind_at}
use Rattle.cov_record.proofs.Bytes.{u8_forth, u32_back, u32_forth, spelt_back, spelt_forth, text_back, text_forth}
use Rattle.cov_record.proofs.Runs.{many_back, many_forth}

abbrev bit_spelling : Bool → List ℕ
bit_spelling b = bit b ∷ []

abbrev Any : Bool → Type 0
Any b = Unit {0}

bits_are : (c : List Bool) → map bit c ≡ run_of bit_spelling c
bits_are [] = refl
bits_are (b ∷ c) = ap (λ bs. bit b ∷ bs) (bits_are c)

all_any : (c : List Bool) → AllByRecursion Any c
all_any [] = tt
all_any (b ∷ c) = (tt, all_any c)

pub bit_back : (b : Bool) (r : List ℕ) → Any b → front_bit (bit_spelling b ++ r) ≡ Some (b, r)
bit_back true r h = refl
bit_back false r h = refl

bit_of_forth : (n : ℕ) (bs : List ℕ) (b : Bool) (r : List ℕ) → bit_of n bs ≡ Some (b, r) → n ∷ bs ≡ bit_spelling b ++ r
bit_of_forth zero bs b r h = let p = pair_of false b bs r h in λ i. bit_spelling (p.0 i) ++ p.1 i
bit_of_forth (suc zero) bs b r h = let p = pair_of true b bs r h in λ i. bit_spelling (p.0 i) ++ p.1 i
bit_of_forth (suc (suc n)) bs b r h = absurd (none-some (b, r) h)

pub bit_forth : (bs : List ℕ) (b : Bool) (r : List ℕ) → front_bit bs ≡ Some (b, r) → Any b × (bs ≡ bit_spelling b ++ r)
bit_forth bs b r h =
    let a = behind_some (front_u8 bs) bit_of b r h in
    (tt, u8_forth bs a.0 a.1 a.2 ∙ bit_of_forth a.0 a.1 b r a.3)

pub choice_back : (c : List Bool) (r : List ℕ) → length c ≤ CHOICE_WIDTH → front_choice (choice_spelling c ++ r) ≡ Some (c, r)
choice_back c r h =
    behind_at (given (nat_le (length c) CHOICE_WIDTH) (length c) (map bit c ++ r)) front_bits (Some (c, r)) (length c) (map bit c ++ r)
    (given_true (nat_le (length c) CHOICE_WIDTH) (length c) (map bit c ++ r) (le-leb (length c) CHOICE_WIDTH h))
    (ap (λ bs. front_bits (length c) (bs ++ r)) (bits_are c) ∙ many_back front_bit bit_spelling Any bit_back c r (all_any c))

pub choice_forth : (bs : List ℕ) (c : List Bool) (r : List ℕ) → front_choice bs ≡ Some (c, r) → (length c ≤ CHOICE_WIDTH) × (bs ≡ choice_spelling c ++ r)
choice_forth bs c r h =
    let a = behind_some (front_u8 bs) bits_counted c r h in
    let b = behind_some (given (nat_le a.0 CHOICE_WIDTH) a.0 a.1) front_bits c r a.3 in
    let g = given_some (nat_le a.0 CHOICE_WIDTH) a.0 b.0 a.1 b.1 b.2 in
    let w = many_forth front_bit bit_spelling Any bit_forth b.0 b.1 c r b.3 in
    let few = leb-true a.0 CHOICE_WIDTH g.0 in (
      subst (λ n. n ≤ CHOICE_WIDTH) (g.1 ∙ w.0) few,
      u8_forth bs a.0 a.1 a.2 ∙ (λ i. g.1 i ∷ g.2 i) ∙ (λ i. w.0 i ∷ w.2 i) ∙ ap (λ bs. length c ∷ (bs ++ r)) (sym (bits_are c)),
    )

pub kind_back : (k : Kind) (r : List ℕ) → front_kind (kind_byte k ∷ r) ≡ Some (k, r)
kind_back File r = refl
kind_back Dir r = refl

kind_of_forth : (n : ℕ) (bs : List ℕ) (k : Kind) (r : List ℕ) → kind_of n bs ≡ Some (k, r) → n ∷ bs ≡ kind_byte k ∷ r
kind_of_forth zero bs k r h = let p = pair_of File k bs r h in λ i. kind_byte (p.0 i) ∷ p.1 i
kind_of_forth (suc zero) bs k r h = let p = pair_of Dir k bs r h in λ i. kind_byte (p.0 i) ∷ p.1 i
kind_of_forth (suc (suc n)) bs k r h = absurd (none-some (k, r) h)

pub kind_forth : (bs : List ℕ) (k : Kind) (r : List ℕ) → front_kind bs ≡ Some (k, r) → bs ≡ kind_byte k ∷ r
kind_forth bs k r h = let a = behind_some (front_u8 bs) kind_of k r h in u8_forth bs a.0 a.1 a.2 ∙ kind_of_forth a.0 a.1 k r a.3

pub node_back : (x : NodeRef) (r : List ℕ) → FitsNode x → front_node (node_spelling x ++ r) ≡ Some (x, r)
node_back (nodes.Old n) r h = ap (λ f. behind f (node_ref_of 0)) (u32_back n r h)
node_back (nodes.New n) r h = ap (λ f. behind f (node_ref_of 1)) (u32_back n r h)

node_ref_of_forth : (tag n : ℕ) (bs : List ℕ) (x : NodeRef) (r : List ℕ) → node_ref_of tag n bs ≡ Some (x, r) → n < 2 ^ 32 → FitsNode x × (tag ∷ (to_be_bytes w32 n ++ bs) ≡ node_spelling x ++ r)
node_ref_of_forth zero n bs x r h k = begins_with node_spelling FitsNode (nodes.Old n) x bs r (0 ∷ (to_be_bytes w32 n ++ bs)) (k, refl) h
node_ref_of_forth (suc zero) n bs x r h k = begins_with node_spelling FitsNode (nodes.New n) x bs r (1 ∷ (to_be_bytes w32 n ++ bs)) (k, refl) h
node_ref_of_forth (suc (suc t)) n bs x r h k = absurd (none-some (x, r) h)

pub node_forth : (bs : List ℕ) (x : NodeRef) (r : List ℕ) → front_node bs ≡ Some (x, r) → FitsNode x × (bs ≡ node_spelling x ++ r)
node_forth bs x r h =
    let a = behind_some (front_u8 bs) _ x r h in
    let b = behind_some (front_u32 a.1) (node_ref_of a.0) x r a.3 in
    let u = u32_forth a.1 b.0 b.1 b.2 in
    let w = node_ref_of_forth a.0 b.0 b.1 x r b.3 u.0 in
    (w.0, u8_forth bs a.0 a.1 a.2 ∙ ap (λ m. a.0 ∷ m) u.1 ∙ w.1)

pub line_back : (x : LineRef) (r : List ℕ) → FitsLine x → front_line (line_spelling x ++ r) ≡ Some (x, r)
line_back (lines.Old n) r h = ap (λ f. behind f (line_ref_of 0)) (u32_back n r h)
line_back (lines.New n) r h = ap (λ f. behind f (line_ref_of 1)) (u32_back n r h)

line_ref_of_forth : (tag n : ℕ) (bs : List ℕ) (x : LineRef) (r : List ℕ) → line_ref_of tag n bs ≡ Some (x, r) → n < 2 ^ 32 → FitsLine x × (tag ∷ (to_be_bytes w32 n ++ bs) ≡ line_spelling x ++ r)
line_ref_of_forth zero n bs x r h k = begins_with line_spelling FitsLine (lines.Old n) x bs r (0 ∷ (to_be_bytes w32 n ++ bs)) (k, refl) h
line_ref_of_forth (suc zero) n bs x r h k = begins_with line_spelling FitsLine (lines.New n) x bs r (1 ∷ (to_be_bytes w32 n ++ bs)) (k, refl) h
line_ref_of_forth (suc (suc t)) n bs x r h k = absurd (none-some (x, r) h)

pub line_forth : (bs : List ℕ) (x : LineRef) (r : List ℕ) → front_line bs ≡ Some (x, r) → FitsLine x × (bs ≡ line_spelling x ++ r)
line_forth bs x r h =
    let a = behind_some (front_u8 bs) _ x r h in
    let b = behind_some (front_u32 a.1) (line_ref_of a.0) x r a.3 in
    let u = u32_forth a.1 b.0 b.1 b.2 in
    let w = line_ref_of_forth a.0 b.0 b.1 x r b.3 u.0 in
    (w.0, u8_forth bs a.0 a.1 a.2 ∙ ap (λ m. a.0 ∷ m) u.1 ∙ w.1)

pub edit_back : (e : Edit) (r : List ℕ) → FitsEdit e → front_edit (edit_spelling e ++ r) ≡ Some (e, r)
edit_back (edits.New kind parent name) r h =
    ap (λ bs. front_edit (1 ∷ kind_byte kind ∷ bs)) (append_assoc (node_spelling parent) (name_spelling name) r)
    ∙ behind_at (front_kind (kind_byte kind ∷ (node_spelling parent ++ (name_spelling name ++ r)))) _ _ kind (node_spelling parent ++ (name_spelling name ++ r)) (kind_back kind (node_spelling parent ++ (name_spelling name ++ r)))
    (behind_at (front_node (node_spelling parent ++ (name_spelling name ++ r))) _ _ parent (name_spelling name ++ r) (node_back parent (name_spelling name ++ r) h.1)
    (behind_at (front_name (name_spelling name ++ r)) _ _ name r (spelt_back is_name name r h.0) refl))
edit_back (edits.Insert file after text) r h =
    ap (λ bs. front_edit (2 ∷ bs)) (append_assoc (node_spelling file) (line_spelling after ++ text_spelling text) r ∙ ap (λ bs. node_spelling file ++ bs) (append_assoc (line_spelling after) (text_spelling text) r))
    ∙ behind_at (front_node (node_spelling file ++ (line_spelling after ++ (text_spelling text ++ r)))) _ _ file (line_spelling after ++ (text_spelling text ++ r)) (node_back file (line_spelling after ++ (text_spelling text ++ r)) h.1.0)
    (behind_at (front_line (line_spelling after ++ (text_spelling text ++ r))) _ _ after (text_spelling text ++ r) (line_back after (text_spelling text ++ r) h.1.1)
    (behind_at (front_text (text_spelling text ++ r)) _ _ text r (text_back text r h.0) refl))
edit_back (edits.Delete file line) r h =
    ap (λ bs. front_edit (3 ∷ bs)) (append_assoc (node_spelling file) (line_spelling line) r)
    ∙ behind_at (front_node (node_spelling file ++ (line_spelling line ++ r))) _ _ file (line_spelling line ++ r) (node_back file (line_spelling line ++ r) h.1.0)
    (behind_at (front_line (line_spelling line ++ r)) _ _ line r (line_back line r h.1.1) refl)
edit_back (edits.Rename node name) r h =
    ap (λ bs. front_edit (4 ∷ bs)) (append_assoc (node_spelling node) (name_spelling name) r)
    ∙ behind_at (front_node (node_spelling node ++ (name_spelling name ++ r))) _ _ node (name_spelling name ++ r) (node_back node (name_spelling name ++ r) h.1)
    (behind_at (front_name (name_spelling name ++ r)) _ _ name r (spelt_back is_name name r h.0) refl)
edit_back (edits.Move node parent) r h =
    ap (λ bs. front_edit (5 ∷ bs)) (append_assoc (node_spelling node) (node_spelling parent) r)
    ∙ behind_at (front_node (node_spelling node ++ (node_spelling parent ++ r))) _ _ node (node_spelling parent ++ r) (node_back node (node_spelling parent ++ r) h.1.0)
    (behind_at (front_node (node_spelling parent ++ r)) _ _ parent r (node_back parent r h.1.1) refl)
edit_back (edits.Remove node) r h = behind_at (front_node (node_spelling node ++ r)) _ _ node r (node_back node r h.1) refl

new_forth : (bs : List ℕ) (x : Edit) (r : List ℕ) → front_new bs ≡ Some (x, r) → Begins edit_spelling FitsEdit (1 ∷ bs) x r
new_forth bs x r h =
    let a = behind_some (front_kind bs) _ x r h in
    let b = behind_some (front_node a.1) _ x r a.3 in
    let d = behind_some (front_name b.1) _ x r b.3 in
    let n = node_forth a.1 b.0 b.1 b.2 in
    let m = spelt_forth is_name b.1 d.0 d.1 d.2 in
    begins_with edit_spelling FitsEdit (edits.New a.0 b.0 d.0) x d.1 r (1 ∷ bs)
    ((m.0, n.0), ap (λ bs. 1 ∷ bs) (kind_forth bs a.0 a.1 a.2 ∙ ap (λ bs. kind_byte a.0 ∷ bs) (n.1 ∙ ap (λ bs. node_spelling b.0 ++ bs) m.1 ∙ sym (append_assoc (node_spelling b.0) (name_spelling d.0) d.1)))) d.3

insert_forth : (bs : List ℕ) (x : Edit) (r : List ℕ) → front_insert bs ≡ Some (x, r) → Begins edit_spelling FitsEdit (2 ∷ bs) x r
insert_forth bs x r h =
    let a = behind_some (front_node bs) _ x r h in
    let b = behind_some (front_line a.1) _ x r a.3 in
    let d = behind_some (front_text b.1) _ x r b.3 in
    let n = node_forth bs a.0 a.1 a.2 in
    let l = line_forth a.1 b.0 b.1 b.2 in
    let t = text_forth b.1 d.0 d.1 d.2 in
    begins_with edit_spelling FitsEdit (edits.Insert a.0 b.0 d.0) x d.1 r (2 ∷ bs) (
      (t.0, (n.0, l.0)),
      ap (λ bs. 2 ∷ bs) (n.1 ∙ ap (λ bs. node_spelling a.0 ++ bs) (l.1 ∙ ap (λ bs. line_spelling b.0 ++ bs) t.1 ∙ sym (append_assoc (line_spelling b.0) (text_spelling d.0) d.1))
          ∙ sym (append_assoc (node_spelling a.0) (line_spelling b.0 ++ text_spelling d.0) d.1)),
    ) d.3

delete_forth : (bs : List ℕ) (x : Edit) (r : List ℕ) → front_delete bs ≡ Some (x, r) → Begins edit_spelling FitsEdit (3 ∷ bs) x r
delete_forth bs x r h =
    let a = behind_some (front_node bs) _ x r h in
    let b = behind_some (front_line a.1) _ x r a.3 in
    let n = node_forth bs a.0 a.1 a.2 in
    let l = line_forth a.1 b.0 b.1 b.2 in
    begins_with edit_spelling FitsEdit (edits.Delete a.0 b.0) x b.1 r (3 ∷ bs)
    ((refl, (n.0, l.0)), ap (λ bs. 3 ∷ bs) (n.1 ∙ ap (λ bs. node_spelling a.0 ++ bs) l.1 ∙ sym (append_assoc (node_spelling a.0) (line_spelling b.0) b.1))) b.3

rename_forth : (bs : List ℕ) (x : Edit) (r : List ℕ) → front_rename bs ≡ Some (x, r) → Begins edit_spelling FitsEdit (4 ∷ bs) x r
rename_forth bs x r h =
    let a = behind_some (front_node bs) _ x r h in
    let b = behind_some (front_name a.1) _ x r a.3 in
    let n = node_forth bs a.0 a.1 a.2 in
    let m = spelt_forth is_name a.1 b.0 b.1 b.2 in
    begins_with edit_spelling FitsEdit (edits.Rename a.0 b.0) x b.1 r (4 ∷ bs)
    ((m.0, n.0), ap (λ bs. 4 ∷ bs) (n.1 ∙ ap (λ bs. node_spelling a.0 ++ bs) m.1 ∙ sym (append_assoc (node_spelling a.0) (name_spelling b.0) b.1))) b.3

move_forth : (bs : List ℕ) (x : Edit) (r : List ℕ) → front_move bs ≡ Some (x, r) → Begins edit_spelling FitsEdit (5 ∷ bs) x r
move_forth bs x r h =
    let a = behind_some (front_node bs) _ x r h in
    let b = behind_some (front_node a.1) _ x r a.3 in
    let n = node_forth bs a.0 a.1 a.2 in
    let m = node_forth a.1 b.0 b.1 b.2 in
    begins_with edit_spelling FitsEdit (edits.Move a.0 b.0) x b.1 r (5 ∷ bs)
    ((refl, (n.0, m.0)), ap (λ bs. 5 ∷ bs) (n.1 ∙ ap (λ bs. node_spelling a.0 ++ bs) m.1 ∙ sym (append_assoc (node_spelling a.0) (node_spelling b.0) b.1))) b.3

remove_forth : (bs : List ℕ) (x : Edit) (r : List ℕ) → front_remove bs ≡ Some (x, r) → Begins edit_spelling FitsEdit (6 ∷ bs) x r
remove_forth bs x r h =
    let a = behind_some (front_node bs) _ x r h in
    let n = node_forth bs a.0 a.1 a.2 in
    begins_with edit_spelling FitsEdit (edits.Remove a.0) x a.1 r (6 ∷ bs) ((refl, n.0), ap (λ bs. 6 ∷ bs) n.1) a.3

edit_of_forth : (tag : ℕ) (bs : List ℕ) (x : Edit) (r : List ℕ) → edit_of tag bs ≡ Some (x, r) → Begins edit_spelling FitsEdit (tag ∷ bs) x r
edit_of_forth zero bs x r h = absurd (none-some (x, r) h)
edit_of_forth (suc zero) bs x r h = new_forth bs x r h
edit_of_forth (suc (suc zero)) bs x r h = insert_forth bs x r h
edit_of_forth (suc (suc (suc zero))) bs x r h = delete_forth bs x r h
edit_of_forth (suc (suc (suc (suc zero)))) bs x r h = rename_forth bs x r h
edit_of_forth (suc (suc (suc (suc (suc zero))))) bs x r h = move_forth bs x r h
edit_of_forth (suc (suc (suc (suc (suc (suc zero)))))) bs x r h = remove_forth bs x r h
edit_of_forth (suc (suc (suc (suc (suc (suc (suc n))))))) bs x r h = absurd (none-some (x, r) h)

pub edit_forth : (bs : List ℕ) (x : Edit) (r : List ℕ) → front_edit bs ≡ Some (x, r) → FitsEdit x × (bs ≡ edit_spelling x ++ r)
edit_forth bs x r h =
    let a = behind_some (front_u8 bs) edit_of x r h in
    let w = edit_of_forth a.0 a.1 x r a.3 in
    (w.0, u8_forth bs a.0 a.1 a.2 ∙ w.1)

-- all edits fit where their names and texts do, and the numbers that they name
pub each_fits : (es : List Edit) → list_all fits_edit es ≡ true → AllByRecursion FitsReferences es → AllByRecursion FitsEdit es
each_fits [] fits references = tt
each_fits (e ∷ es) fits references = let own = and_parts (fits_edit e) (list_all fits_edit es) fits in ((own.0, references.0), each_fits es own.1 references.1)

pub all_fit : (es : List Edit) → AllByRecursion FitsEdit es → (list_all fits_edit es ≡ true) × AllByRecursion FitsReferences es
all_fit [] h = (refl, tt)
all_fit (e ∷ es) h = let rest = all_fit es h.1 in (and_from (fits_edit e) (list_all fits_edit es) h.0.0 rest.0, (h.0.1, rest.1))

pub edits_back : (es : List Edit) (r : List ℕ) → length es < 2 ^ 32 → AllByRecursion FitsEdit es → front_counted (edits_spelling es ++ r) ≡ Some (es, r)
edits_back es r few h =
    ap front_counted (append_assoc (to_be_bytes w32 (length es)) (all_edit_spelling es) r)
    ∙ behind_at (front_u32 (to_be_bytes w32 (length es) ++ (all_edit_spelling es ++ r))) front_edits (Some (es, r)) (length es) (all_edit_spelling es ++ r) (u32_back (length es) (all_edit_spelling es ++ r) few)
    (many_back front_edit edit_spelling FitsEdit edit_back es r h)

pub edits_forth : (bs : List ℕ) (es : List Edit) (r : List ℕ) → front_counted bs ≡ Some (es, r) → (length es < 2 ^ 32) × AllByRecursion FitsEdit es × (bs ≡ edits_spelling es ++ r)
edits_forth bs es r h =
    let a = behind_some (front_u32 bs) front_edits es r h in
    let u = u32_forth bs a.0 a.1 a.2 in
    let w = many_forth front_edit edit_spelling FitsEdit edit_forth a.0 a.1 es r a.3 in
    (subst (λ n. n < 2 ^ 32) w.0 u.0, w.1, u.1 ∙ (λ i. to_be_bytes w32 (w.0 i) ++ w.2 i) ∙ sym (append_assoc (to_be_bytes w32 (length es)) (all_edit_spelling es) r))
