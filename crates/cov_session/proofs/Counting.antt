-- What is counted of a session with more edits.
use Rattle.std.proofs.Common.{◌≡◌, ◌∙◌, sym, ap, subst, ℕ, ◌+◌, ◌<◌, ◌≤◌, List, [], ◌∷◌, ◌++◌, length, length-append, Some, arith}
use Rattle.cov_base.specs.declared.limits.TheConstants.{LIMITS}
use Rattle.cov_edit.specs.declared.edit.Edit.{Edit}
use Rattle.cov_edit.specs.History.{text_bytes, edit_bytes}
use Rattle.cov_edit.specs.Numbering.{nodes_made, anchors_of}
use Rattle.cov_edit.proofs.CallerLemmas.{anchors-append, nodes-append, nodes-most, lines-most, bytes-append}
use Rattle.cov_view.specs.Seen.{Seen}
use Rattle.cov_session.specs.Counting.{IsCounted}

-- a session with room for an edit has room in its view
pub nodes-fit : (view : Seen) (es : List Edit) (bytes : ℕ) → IsCounted view es bytes → length es < LIMITS.edits → view.nodes_made < 4294967295
nodes-fit view es bytes counted room = let e = counted.nodes in let m = nodes-most es in omega (arith, e, m, room)

pub lines-fit : (view : Seen) (es : List Edit) (bytes : ℕ) → IsCounted view es bytes → length es < LIMITS.edits → view.lines_made < 4294967295
lines-fit view es bytes counted room = let e = counted.lines in let m = lines-most 0 es in omega (arith, e, m, room)

pub lines-few : (view : Seen) (es : List Edit) (bytes : ℕ) → IsCounted view es bytes → view.lines_made ≤ length es
lines-few view es bytes counted = let e = counted.lines in let m = lines-most 0 es in omega (arith, e, m)

pub one-light : (es : List Edit) (e : Edit) (bytes : ℕ) → bytes ≤ LIMITS.commit_bytes → bytes ≡ text_bytes es + edit_bytes e → text_bytes (es ++ e ∷ []) ≤ LIMITS.commit_bytes
one-light es e bytes most is = let sum = bytes-append es (e ∷ []) in omega (arith, sum, most, is)

pub last-is : (e f : Edit) → Some e ≡ Some f → e ≡ f
last-is e f h = cc

-- more edits, which a view has
pub counted-after : (old new : Seen) (es more all : List Edit) (before bytes : ℕ) → IsCounted old es before
    → new.nodes_made ≡ old.nodes_made + nodes_made more → new.lines_made ≡ old.lines_made + length (anchors_of 0 more)
    → all ≡ es ++ more → bytes ≡ text_bytes es + text_bytes more → length es + length more ≤ LIMITS.edits → bytes ≤ LIMITS.commit_bytes
    → IsCounted new all bytes
counted-after old new es more all before bytes counted nodes lines is text few light = record {
  nodes = nodes ∙ ap (λ k. k + nodes_made more) counted.nodes ∙ sym (nodes-append es more) ∙ sym (ap nodes_made is);
  lines = lines ∙ ap (λ k. k + length (anchors_of 0 more)) counted.lines
      ∙ sym (ap length (anchors-append 0 es more) ∙ length-append (anchors_of 0 es) (anchors_of 0 more)) ∙ sym (ap (λ fs. length (anchors_of 0 fs)) is);
  bytes_of_text = text ∙ sym (bytes-append es more) ∙ sym (ap text_bytes is);
  few = subst (λ fs. length fs ≤ LIMITS.edits) (sym is) (let l = length-append es more in omega (arith, l, few));
  light = subst (λ fs. text_bytes fs ≤ LIMITS.commit_bytes) (sym is) (let sum = bytes-append es more in omega (arith, sum, text, light));
}
