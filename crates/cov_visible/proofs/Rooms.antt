-- Room for what edits do to files, counted edit by edit.
use Rattle.std.proofs.Common.{◌≡◌, ℕ, suc, ◌+◌, ◌-◌, ◌<◌, ◌≤◌, Bool, true, false, cond, ◌&&◌, ◌||◌, nat_eq, List, [], ◌∷◌, ◌++◌, length, map, take, drop, get_or, is_none, is_some, refl, sym, ap, subst, ◌∙◌, arith}
use Rattle.std.specs.List.{AllByRecursion}
use Rattle.std.proofs.lemmas.List.{map-append, take-map, take-append-drop}
use Rattle.std.proofs.lemmas.Bool.{not-true, or_right}
use Rattle.std.proofs.lemmas.Bool.Decides.{nat_tests}
use Rattle.std.proofs.lemmas.List.Folds.{list_any-append}
use Rattle.cov_base.proofs.CallerLemmas.{all-map, none-is}
use Rattle.cov_edit.proofs.CallerLemmas.{rest_of, opened}
use Rattle.cov_base.specs.declared.limits.TheConstants.{LIMITS}
use Rattle.cov_edit.specs.Touched.{AreRising}
use Rattle.cov_file.specs.Dated.{line_numbers_of}
use Rattle.cov_file.specs.Rooms.{IsMade}
use Rattle.cov_order.specs.Orders.{has_line}
use Rattle.cov_visible.specs.declared.file_part.FilePart.{FilePart}
use Rattle.cov_visible.specs.declared.resolved_edit.ResolvedEdit.{ResolvedEdit}
use Rattle.cov_visible.specs.declared.resolved_edit.ResolvedEdit.TheVariants as resolved
use Rattle.cov_visible.specs.Staging.{Contents, contents, new_contents, inserts_into, deletes_from, touches, HasRoom}
use Rattle.cov_visible.specs.Carrying.{IsChangedIn, IsExpectingInsert, IsExpectingDelete, Expects}
use Rattle.cov_visible.specs.Parts.{part_node}
use Rattle.cov_visible.proofs.Rising.{rising-front}
use Rattle.cov_visible.proofs.StoredFiles.{contents-nodes, new-nodes, node-contents, all-pairs}

inserts-few : (node : ℕ) (ss : List ResolvedEdit) → inserts_into node ss ≤ length ss
inserts-few node [] = omega arith
inserts-few node (resolved.New which kind parent name on ∷ ss) = let ih = inserts-few node ss in omega (arith, ih)
inserts-few node (resolved.Delete file line vis ∷ ss) = let ih = inserts-few node ss in omega (arith, ih)
inserts-few node (resolved.Insert file anchor line text vis ∷ ss) = by (nat_eq file node) (inserts-few node ss)
  where
    by : (b : Bool) → inserts_into node ss ≤ length ss → cond b (suc (inserts_into node ss)) (inserts_into node ss) ≤ suc (length ss)
    by true ih = omega (arith, ih)
    by false ih = omega (arith, ih)
inserts-few node (resolved.Rename which name on ∷ ss) = let ih = inserts-few node ss in omega (arith, ih)
inserts-few node (resolved.Move which parent on ∷ ss) = let ih = inserts-few node ss in omega (arith, ih)
inserts-few node (resolved.Remove which on ∷ ss) = let ih = inserts-few node ss in omega (arith, ih)

flip : (a b : ℕ) (t : Bool) → nat_eq a b ≡ t → nat_eq b a ≡ t
flip a b true h = grind (arith, nat_tests, h)
flip a b false h = grind (arith, nat_tests, h)

either : (a b c : Bool) → (a || b) ≡ true → (b ≡ true → c ≡ true) → (a || c) ≡ true
either true b c h f = refl
either false b c h f = f h

-- what is deleted is ahead, or was listed, or is the line
moved : (file line ahead listed : Bool) → (((file && line) || ahead) || listed) ≡ true → (ahead || (listed || (line || false))) ≡ true
moved file line true listed h = refl
moved file line false true h = refl
moved file true false false h = refl
moved true false false false h = h
moved false false false false h = h

listed-more : (which line : ℕ) (lines : List ℕ) → has_line which (lines ++ line ∷ []) ≡ (has_line which lines || (nat_eq line which || false))
listed-more which line lines = list_any-append (λ n. nat_eq n which) lines (line ∷ [])

-- a stored file has room for what edits do to its file but for those ahead, and they are counted for it
pub record IsReadyBut (ss ahead : List ResolvedEdit) (e : FilePart) : Type 0 where
  pub inserts : inserts_into e.node ss ≤ e.lines.room.inserts + inserts_into e.node ahead
  pub counted : inserts_into e.node ss ≤ e.lines.coming.inserts + inserts_into e.node ahead
  pub listed : (line : ℕ) → deletes_from e.node line ss ≡ true → (deletes_from e.node line ahead || has_line line e.lines.coming.deletes) ≡ true
  pub changes : (line : ℕ) → deletes_from e.node line ss ≡ true → has_line line (line_numbers_of e.lines.lines) ≡ true
      → (deletes_from e.node line ahead || has_line line e.lines.room.changes) ≡ true
  pub position : touches e.node ss ≡ true → (touches e.node ahead || is_none e.lines.room.position) ≡ true

module _ (ss ahead : List ResolvedEdit) where
  made : (e : FilePart) → inserts_into e.node ss ≤ e.lines.coming.inserts + inserts_into e.node ahead
      → ((line : ℕ) → deletes_from e.node line ss ≡ true → (deletes_from e.node line ahead || has_line line e.lines.coming.deletes) ≡ true)
      → IsMade e.lines.room (line_numbers_of e.lines.lines) e.lines.coming.inserts e.lines.coming.deletes → IsReadyBut ss ahead e
  made e counted listed room = record {
    inserts = let enough = room.inserts in omega (arith, counted, enough);
    counted = counted;
    listed = listed;
    changes = λ line deleted there.
        either (deletes_from e.node line ahead) (has_line line e.lines.coming.deletes) (has_line line e.lines.room.changes) (listed line deleted) (λ is. room.changes line is there);
    position = λ touched. or_right (touches e.node ahead) (is_none e.lines.room.position) (ap is_none room.position);
  }

  insert-here : (file anchor line : ℕ) (text : List ℕ) (vis : ℕ) (old new : FilePart) → length ss ≤ LIMITS.edits → nat_eq file old.node ≡ true → IsExpectingInsert old new
      → IsReadyBut ss (resolved.Insert file anchor line text vis ∷ ahead) old → IsReadyBut ss ahead new
  insert-here file anchor line text vis old new few here h ready = made new counted listed h.room
    where
      node : new.node ≡ old.node
      node = node-contents new old h.row

      more : inserts_into old.node ss ≤ old.lines.coming.inserts + suc (inserts_into old.node ahead)
      more = subst (λ b. inserts_into old.node ss ≤ old.lines.coming.inserts + cond b (suc (inserts_into old.node ahead)) (inserts_into old.node ahead)) here ready.counted

      added : inserts_into old.node ss - inserts_into old.node ahead ≤ new.lines.coming.inserts
      added =
          let below = inserts-few old.node ss in
          h.inserts (inserts_into old.node ss - inserts_into old.node ahead) (omega (arith, more)) (omega (arith, below, few))

      counted : inserts_into new.node ss ≤ new.lines.coming.inserts + inserts_into new.node ahead
      counted = subst (λ k. inserts_into k ss ≤ new.lines.coming.inserts + inserts_into k ahead) (sym node) (omega (arith, added))

      listed : (line : ℕ) → deletes_from new.node line ss ≡ true → (deletes_from new.node line ahead || has_line line new.lines.coming.deletes) ≡ true
      listed line =
          subst (λ k. deletes_from k line ss ≡ true → (deletes_from k line ahead || has_line line new.lines.coming.deletes) ≡ true) (sym node)
          (subst (λ ls. deletes_from old.node line ss ≡ true → (deletes_from old.node line ahead || has_line line ls) ≡ true) (sym h.deletes) (ready.listed line))

  insert-elsewhere : (file anchor line : ℕ) (text : List ℕ) (vis : ℕ) (e : FilePart) → nat_eq file e.node ≡ false
      → IsReadyBut ss (resolved.Insert file anchor line text vis ∷ ahead) e → IsReadyBut ss ahead e
  insert-elsewhere file anchor line text vis e differs ready = record {
    inserts = subst (λ b. inserts_into e.node ss ≤ e.lines.room.inserts + cond b (suc (inserts_into e.node ahead)) (inserts_into e.node ahead)) differs ready.inserts;
    counted = subst (λ b. inserts_into e.node ss ≤ e.lines.coming.inserts + cond b (suc (inserts_into e.node ahead)) (inserts_into e.node ahead)) differs ready.counted;
    listed = ready.listed;
    changes = ready.changes;
    position = λ touched. subst (λ b. ((b || touches e.node ahead) || is_none e.lines.room.position) ≡ true) differs (ready.position touched);
  }

  insert-one : (file anchor line : ℕ) (text : List ℕ) (vis : ℕ) → length ss ≤ LIMITS.edits → (old new : FilePart) → IsChangedIn file IsExpectingInsert old new
      → IsReadyBut ss (resolved.Insert file anchor line text vis ∷ ahead) old → IsReadyBut ss ahead new
  insert-one file anchor line text vis few old new h ready = by (nat_eq old.node file) refl
    where
      by : (b : Bool) → nat_eq old.node file ≡ b → IsReadyBut ss ahead new
      by true e = insert-here file anchor line text vis old new few (flip old.node file true e) (h.here e) ready
      by false e =
          subst (IsReadyBut ss ahead) (sym (h.elsewhere e)) (insert-elsewhere file anchor line text vis old (flip old.node file false e) ready)

  delete-here : (file line vis : ℕ) (old new : FilePart) → IsExpectingDelete line old new
      → IsReadyBut ss (resolved.Delete file line vis ∷ ahead) old → IsReadyBut ss ahead new
  delete-here file line vis old new h ready = made new counted listed h.room
    where
      node : new.node ≡ old.node
      node = node-contents new old h.row

      counted : inserts_into new.node ss ≤ new.lines.coming.inserts + inserts_into new.node ahead
      counted =
          subst (λ k. inserts_into k ss ≤ new.lines.coming.inserts + inserts_into k ahead) (sym node)
          (subst (λ k. inserts_into old.node ss ≤ k + inserts_into old.node ahead) (sym h.inserts) ready.counted)

      listed : (which : ℕ) → deletes_from new.node which ss ≡ true → (deletes_from new.node which ahead || has_line which new.lines.coming.deletes) ≡ true
      listed which =
          subst (λ k. deletes_from k which ss ≡ true → (deletes_from k which ahead || has_line which new.lines.coming.deletes) ≡ true) (sym node)
          (λ deleted.
          subst (λ b. (deletes_from old.node which ahead || b) ≡ true) (sym (ap (has_line which) h.deletes ∙ listed-more which line old.lines.coming.deletes))
          (moved (nat_eq file old.node) (nat_eq line which) (deletes_from old.node which ahead) (has_line which old.lines.coming.deletes) (ready.listed which deleted)))

  delete-elsewhere : (file line vis : ℕ) (e : FilePart) → nat_eq file e.node ≡ false
      → IsReadyBut ss (resolved.Delete file line vis ∷ ahead) e → IsReadyBut ss ahead e
  delete-elsewhere file line vis e differs ready = record {
    inserts = ready.inserts;
    counted = ready.counted;
    listed = λ which deleted.
        subst (λ b. (((b && nat_eq line which) || deletes_from e.node which ahead) || has_line which e.lines.coming.deletes) ≡ true) differs (ready.listed which deleted);
    changes = λ which deleted there.
        subst (λ b. (((b && nat_eq line which) || deletes_from e.node which ahead) || has_line which e.lines.room.changes) ≡ true) differs (ready.changes which deleted there);
    position = λ touched. subst (λ b. ((b || touches e.node ahead) || is_none e.lines.room.position) ≡ true) differs (ready.position touched);
  }

  delete-one : (file line vis : ℕ) (old new : FilePart) → IsChangedIn file (IsExpectingDelete line) old new
      → IsReadyBut ss (resolved.Delete file line vis ∷ ahead) old → IsReadyBut ss ahead new
  delete-one file line vis old new h ready = by (nat_eq old.node file) refl
    where
      by : (b : Bool) → nat_eq old.node file ≡ b → IsReadyBut ss ahead new
      by true e = delete-here file line vis old new (h.here e) ready
      by false e = subst (IsReadyBut ss ahead) (sym (h.elsewhere e)) (delete-elsewhere file line vis old (flip old.node file false e) ready)

  -- an edit of rows expects nothing
  nothing-expected : (s : ResolvedEdit) (old new : List FilePart) → ((e : FilePart) → IsReadyBut ss (s ∷ ahead) e → IsReadyBut ss ahead e) → new ≡ old
      → AllByRecursion (IsReadyBut ss (s ∷ ahead)) old → AllByRecursion (IsReadyBut ss ahead) new
  nothing-expected s old new on same ready = subst (AllByRecursion (IsReadyBut ss ahead)) (sym same) (all-map (IsReadyBut ss (s ∷ ahead)) (IsReadyBut ss ahead) on old ready)

  -- once what an edit does is expected, there is room but for the edits after it
  pub expected : (s : ResolvedEdit) (old new : List FilePart) → Expects s old new → length ss ≤ LIMITS.edits
      → AllByRecursion (IsReadyBut ss (s ∷ ahead)) old → AllByRecursion (IsReadyBut ss ahead) new
  expected (resolved.New node kind parent name on) old new same few ready =
      nothing-expected (resolved.New node kind parent name on) old new (λ e r. record { inserts = r.inserts; counted = r.counted; listed = r.listed; changes = r.changes; position = r.position }) same ready
  expected (resolved.Rename node name on) old new same few ready =
      nothing-expected (resolved.Rename node name on) old new (λ e r. record { inserts = r.inserts; counted = r.counted; listed = r.listed; changes = r.changes; position = r.position }) same ready
  expected (resolved.Move node parent on) old new same few ready =
      nothing-expected (resolved.Move node parent on) old new (λ e r. record { inserts = r.inserts; counted = r.counted; listed = r.listed; changes = r.changes; position = r.position }) same ready
  expected (resolved.Remove node on) old new same few ready =
      nothing-expected (resolved.Remove node on) old new (λ e r. record { inserts = r.inserts; counted = r.counted; listed = r.listed; changes = r.changes; position = r.position }) same ready
  expected (resolved.Insert file anchor line text vis) old new pairs few ready =
      all-pairs (IsChangedIn file IsExpectingInsert) (IsReadyBut ss (resolved.Insert file anchor line text vis ∷ ahead)) (IsReadyBut ss ahead) (insert-one file anchor line text vis few) old new pairs ready
  expected (resolved.Delete file line vis) old new pairs few ready =
      all-pairs (IsChangedIn file (IsExpectingDelete line)) (IsReadyBut ss (resolved.Delete file line vis ∷ ahead)) (IsReadyBut ss ahead) (delete-one file line vis) old new pairs ready

pub ready-rest : (ss ahead : List ResolvedEdit) (s d : ResolvedEdit) (old new : List FilePart) → s ≡ get_or ahead 0 d → 1 ≤ length ahead → Expects s old new → length ss ≤ LIMITS.edits
    → AllByRecursion (IsReadyBut ss ahead) old → AllByRecursion (IsReadyBut ss (rest_of ahead)) new
ready-rest ss ahead s d old new is h expects few ready =
    expected ss (rest_of ahead) s old new expects few (subst (λ xs. AllByRecursion (IsReadyBut ss xs) old) (opened s d ahead is h) ready)

ready-all : (ss : List ResolvedEdit) (e : FilePart) → IsReadyBut ss [] e → HasRoom ss e
ready-all ss e ready = record {
  inserts = let enough = ready.inserts in omega (arith, enough);
  changes = ready.changes;
  position = λ touched. none-is e.lines.room.position (not-true (is_some e.lines.room.position) (ready.position touched));
}

pub ready-end : (ss ahead : List ResolvedEdit) (stored : List FilePart) → length ahead < 1 → AllByRecursion (IsReadyBut ss ahead) stored → AllByRecursion (HasRoom ss) stored
ready-end ss [] stored h ready = all-map (IsReadyBut ss []) (HasRoom ss) (ready-all ss) stored ready
ready-end ss (s ∷ ahead) stored h ready = absurd (omega (arith, h))

map-take : (n : ℕ) (es fs : List FilePart) → map contents es ≡ map contents fs → map contents (take n es) ≡ map contents (take n fs)
map-take n es fs h = sym (take-map contents n es) ∙ ap (take n) h ∙ take-map contents n fs

-- the stored files of the front are the same but for their room
pub front-contents : (old staged now : List FilePart) → take (length old) staged ≡ old → map contents now ≡ map contents staged → map contents (take (length old) now) ≡ map contents old
front-contents old staged now front same = map-take (length old) now staged same ∙ ap (map contents) front

-- the stored files that are staged go on with the nodes
pub staged-nodes : (old now : List FilePart) (files : List ℕ) → map contents now ≡ map contents old ++ map new_contents files → map part_node now ≡ map part_node old ++ files
staged-nodes old now files e =
    sym (contents-nodes now) ∙ ap (map (λ (s : Contents). s.node)) e ∙ map-append (λ (s : Contents). s.node) (map contents old) (map new_contents files)
    ∙ (λ j. contents-nodes old j ++ new-nodes files j)

pub staged-rising : (old now : List FilePart) (files : List ℕ) → map contents now ≡ map contents old ++ map new_contents files → AreRising (map part_node old ++ files) → AreRising (map part_node now)
staged-rising old now files e = subst AreRising (sym (staged-nodes old now files e))

-- the first of files by rising node are by rising node
pub front-rising : (n : ℕ) (es : List FilePart) → AreRising (map part_node es) → AreRising (map part_node (take n es))
front-rising n es rising =
    rising-front (map part_node (take n es)) (map part_node (drop n es))
    (subst AreRising (ap (map part_node) (sym (take-append-drop n es)) ∙ map-append part_node (take n es) (drop n es)) rising)
