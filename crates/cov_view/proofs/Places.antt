-- Where a line is put.
use Rattle.std.proofs.Common.{◌≡◌, ℕ, ◌+◌, false, cond, List, ◌∷◌, length, Some, None, position, sym, ap, ◌∙◌}
use Rattle.std.specs.List.{insert}
use Rattle.cov_base.proofs.CallerLemmas.{insert_behind, insert_last}
use Rattle.cov_base.specs.Addresses.{after_first}
use Rattle.cov_base.specs.declared.number.LineRef.{LineRef}
use Rattle.cov_view.specs.References.{is_head, same_line}
use Rattle.cov_view.specs.Lines.{after_ref}
use Rattle.cov_view.specs.declared.line.ViewLine.{ViewLine}

not_head : (after : LineRef) (line : ViewLine) (ls : List ViewLine) → is_head after ≡ false → after_ref after line ls ≡ after_first (λ l. same_line l.line after) line ls
not_head after line ls h = ap (λ b. cond b (line ∷ ls) (after_first (λ l. same_line l.line after) line ls)) h

pub behind_found : (after : LineRef) (ls : List ViewLine) (at : ℕ) → is_head after ≡ false → position (λ l. same_line l.line after) ls ≡ Some at
    → (line : ViewLine) → insert ls (at + 1) line ≡ after_ref after line ls
behind_found after ls at h found line = insert_behind (λ l. same_line l.line after) ls line at found ∙ sym (not_head after line ls h)

pub behind_all : (after : LineRef) (ls : List ViewLine) → is_head after ≡ false → position (λ l. same_line l.line after) ls ≡ None
    → (line : ViewLine) → insert ls (length ls) line ≡ after_ref after line ls
behind_all after ls h found line = insert_last (λ l. same_line l.line after) ls line found ∙ sym (not_head after line ls h)
