-- Edits that are tried, as far as they are.
use Rattle.std.proofs.Common.{◌≡◌, refl, ap, sym, ◌∙◌, ℕ, ◌+◌, ◌<◌, ◌≤◌, Bool, true, false, cond, List, [], ◌∷◌, length, get_or, Some, None, arith}
use Rattle.cov_base.specs.declared.limits.TheConstants.{LIMITS}
use Rattle.cov_base.specs.declared.number.LineRef.{LineRef}
use Rattle.cov_base.specs.declared.number.LineRef.TheVariants as lines
use Rattle.cov_base.specs.declared.number.NodeRef.{NodeRef}
use Rattle.cov_base.specs.declared.number.NodeRef.TheVariants as nodes
use Rattle.cov_edit.specs.declared.edit.Edit.{Edit}
use Rattle.cov_edit.specs.declared.edit.Edit.TheVariants as edits
use Rattle.cov_edit.proofs.CallerLemmas.{opened, rest_of}
use Rattle.cov_visible.specs.Trying.{Trying, deleted_from, place_tried, takes, tried_after}

-- of the edits, those before the place were taken; the others are ahead
pub record Tried (shows : ℕ → ℕ → Bool) (old now : Trying) (all ahead : List Edit) (index : ℕ) : Type 0 where
  pub counted : index + length ahead ≡ length all
  pub nodes : now.rows.nodes_made ≤ index
  pub lines : now.rows.lines_made ≤ 0
  pub first : place_tried shows 0 old all ≡ place_tried shows index now ahead

module _ (shows : ℕ → ℕ → Bool) (old : Trying) (all : List Edit) where
  pub tried-none : old.rows.nodes_made ≡ 0 → old.rows.lines_made ≡ 0 → Tried shows old old all all 0
  tried-none nodes lines = record {
    counted = omega arith;
    nodes = omega (arith, nodes);
    lines = omega (arith, lines);
    first = refl;
  }

  module _ (now : Trying) (ahead : List Edit) (index : ℕ) (h : Tried shows old now all ahead index) where
    -- with room for all edits there is room for the next
    pub room-ahead : 1 ≤ length ahead → length all ≤ LIMITS.edits → (now.rows.nodes_made < 4294967295) × (now.rows.lines_made < 4294967295)
    room-ahead some few =
        let counted = h.counted in
        let nodes = h.nodes in
        let lines = h.lines in
        (omega (arith, counted, some, few, nodes), omega (arith, lines))

    -- where none is ahead, all are taken
    pub tried-all : length ahead < 1 → None ≡ place_tried shows 0 old all
    tried-all none = by ahead none h.first
      where
        by : (es : List Edit) → length es < 1 → place_tried shows 0 old all ≡ place_tried shows index now es → None ≡ place_tried shows 0 old all
        by [] none is = sym is
        by (e ∷ es) none is = absurd (omega (arith, none))

    -- the next of the edits ahead
    module _ (e d : Edit) (is : e ≡ get_or ahead 0 d) (some : 1 ≤ length ahead) where
      split : ahead ≡ e ∷ rest_of ahead
      split = opened e d ahead is some

      turn : place_tried shows 0 old all ≡ cond (takes shows now e) (place_tried shows (index + 1) (tried_after now e) (rest_of ahead)) (Some index)
      turn = h.first ∙ ap (place_tried shows index now) split

      few-nodes : (c : Edit) → (tried_after now c).rows.nodes_made ≤ now.rows.nodes_made + 1
      few-nodes (edits.New kind parent name) = omega arith
      few-nodes (edits.Insert file after text) = omega arith
      few-nodes (edits.Delete file line) = deleted file line
        where
          deleted : (f : NodeRef) (l : LineRef) → (deleted_from now f l).rows.nodes_made ≤ now.rows.nodes_made + 1
          deleted (nodes.Old x) (lines.Old y) = omega arith
          deleted (nodes.New i) (lines.Old y) = omega arith
          deleted f (lines.New i) = omega arith
      few-nodes (edits.Rename node name) = omega arith
      few-nodes (edits.Move node parent) = omega arith
      few-nodes (edits.Remove node) = omega arith

      no-lines : (c : Edit) → (tried_after now c).rows.lines_made ≡ now.rows.lines_made
      no-lines (edits.New kind parent name) = refl
      no-lines (edits.Insert file after text) = refl
      no-lines (edits.Delete file line) = deleted file line
        where
          deleted : (f : NodeRef) (l : LineRef) → (deleted_from now f l).rows.lines_made ≡ now.rows.lines_made
          deleted (nodes.Old x) (lines.Old y) = refl
          deleted (nodes.New i) (lines.Old y) = refl
          deleted f (lines.New i) = refl
      no-lines (edits.Rename node name) = refl
      no-lines (edits.Move node parent) = refl
      no-lines (edits.Remove node) = refl

      pub tried-next : (new : Trying) → takes shows now e ≡ true → new ≡ tried_after now e → Tried shows old new all (rest_of ahead) (index + 1)
      tried-next new taken made = record {
        counted = let counted = h.counted in let one = ap length split in omega (arith, counted, one);
        nodes = let before = h.nodes in let most = few-nodes e in let same = ap (λ (t : Trying). t.rows.nodes_made) made in omega (arith, before, most, same);
        lines = let before = h.lines in let kept = no-lines e in let same = ap (λ (t : Trying). t.rows.lines_made) made in omega (arith, before, kept, same);
        first = turn ∙ ap (λ b. cond b (place_tried shows (index + 1) (tried_after now e) (rest_of ahead)) (Some index)) taken ∙ ap (λ t. place_tried shows (index + 1) t (rest_of ahead)) (sym made);
      }

      -- one that isn't taken is the first
      pub tried-refused : takes shows now e ≡ false → Some index ≡ place_tried shows 0 old all
      tried-refused refused = sym (turn ∙ ap (λ b. cond b (place_tried shows (index + 1) (tried_after now e) (rest_of ahead)) (Some index)) refused)
