-- The lines of a file as they are told.
use Rattle.std.proofs.Common.{◌≡◌, ◌∙◌, refl, sym, ap, ℕ, true, List, [], ◌∷◌, ◌++◌, length, map}
use Rattle.std.proofs.lemmas.List.{length-map}
use Rattle.std.specs.List.{AllByRecursion, concat}
use Rattle.cov_edit.specs.Numbering.{Numbers}
use Rattle.cov_edit.specs.Variant.{Line}
use Rattle.cov_view.specs.References.{is_made_line}
use Rattle.cov_view.specs.Views.{by_number, line_by_number}
use Rattle.cov_view.specs.declared.line.ViewLine.{ViewLine}
use Rattle.cov_visible.specs.Reading.{line_row}
use Rattle.cov_lines.proofs.References.{made_line-again}
use Rattle.cov_script.specs.Replies.{count_reply, shown_line}
use Rattle.cov_lines.specs.Replies.{file_line, file_reply, lines_reply, numbered_line, seen_line, seen_reply, view_line}

-- lines told by their numbers are told as such
by-numbers : {X : Type 0} (tell : X → List ℕ) (tell' : ℕ × List ℕ → List ℕ) (f : X → ℕ × List ℕ) (xs : List X) → map tell xs ≡ map tell' (map f xs)
    → lines_reply tell xs ≡ lines_reply tell' (map f xs)
by-numbers tell tell' f xs h = ap (λ n. count_reply n ++ concat (map tell xs)) (sym (length-map xs f)) ∙ ap (λ rs. count_reply (length (map f xs)) ++ concat rs) h

row-lines : (ls : List Line) → map file_line (map line_row ls) ≡ map numbered_line (map by_number ls)
row-lines [] = refl
row-lines (l ∷ ls) = ap (λ rows. file_line (line_row l) ∷ rows) (row-lines ls)

-- the lines of a file of a variant are told by their numbers
pub by-row : (ls : List Line) → lines_reply file_line (map line_row ls) ≡ file_reply (map by_number ls)
by-row ls =
    ap (λ n. count_reply n ++ concat (map file_line (map line_row ls))) (length-map ls line_row ∙ sym (length-map ls by_number))
    ∙ ap (λ rows. count_reply (length (map by_number ls)) ++ concat rows) (row-lines ls)

seen-lines : (ns : Numbers) (made : ℕ) (ls : List ViewLine) → AllByRecursion (λ l. is_made_line (length ns.addresses) made l.line ≡ true) ls
    → map view_line ls ≡ map (seen_line (length ns.addresses)) (map (line_by_number ns) ls)
seen-lines ns made [] h = refl
seen-lines ns made (l ∷ ls) h =
    ap (λ r. shown_line r l.text ∷ map view_line ls) (sym (made_line-again (length ns.addresses) made l.line h.0))
    ∙ ap (λ rows. seen_line (length ns.addresses) (line_by_number ns l) ∷ rows) (seen-lines ns made ls h.1)

-- in a session, each is told by its reference
pub by-reference : (ns : Numbers) (made : ℕ) (ls : List ViewLine) → AllByRecursion (λ l. is_made_line (length ns.addresses) made l.line ≡ true) ls
    → lines_reply view_line ls ≡ seen_reply (length ns.addresses) (map (line_by_number ns) ls)
by-reference ns made ls h = by-numbers view_line (seen_line (length ns.addresses)) (line_by_number ns) ls (seen-lines ns made ls h)
