-- What the types keep of every edit: a name well spelt, a text that a line can have.
use Rattle.std.specs.Prelude.{Bool, true}
use Rattle.cov_base.specs.Spelling.{is_line_text, is_name}
use Rattle.cov_edit.specs.declared.edit.Edit.{Edit}
use Rattle.cov_edit.specs.declared.edit.Edit.TheVariants as edits

-- whether the text that an edit inserts, if it inserts one, can be a line's
abbrev pub has_line_text : Edit → Bool
has_line_text (edits.New kind parent name) = true
has_line_text (edits.Insert file after text) = is_line_text text
has_line_text (edits.Delete file line) = true
has_line_text (edits.Rename node name) = true
has_line_text (edits.Move node parent) = true
has_line_text (edits.Remove node) = true

-- whether an edit's name is well spelt and its text can be a line's
abbrev pub fits_edit : Edit → Bool
fits_edit (edits.New kind parent name) = is_name name
fits_edit (edits.Insert file after text) = is_line_text text
fits_edit (edits.Delete file line) = true
fits_edit (edits.Rename node name) = is_name name
fits_edit (edits.Move node parent) = true
fits_edit (edits.Remove node) = true
