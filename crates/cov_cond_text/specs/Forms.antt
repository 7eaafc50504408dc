-- Lines by themselves, as they are lent.
use Rattle.std.specs.Prelude.{◌≡◌, ℕ, ◌≤◌, true}
use Rattle.cov_base.specs.Spelling.{is_line_text}
use Rattle.cov_cond_text.specs.Reading.{CondForm, TextForm, IfForm, ElseForm, EndForm, NoForm}
use Rattle.cov_cond_text.specs.declared.form.Form.{Form}
use Rattle.cov_cond_text.specs.declared.form.Form.TheVariants as forms

-- what a lent form shows
abbrev pub shown_form : Form → CondForm
shown_form (forms.Text text) = TextForm text.now
shown_form (forms.If expression) = IfForm expression.now
shown_form forms.Else = ElseForm
shown_form forms.End = EndForm
shown_form forms.Fault = NoForm

-- a line's text, if it is one, can be a line's of a file
abbrev pub HasLineText : CondForm → Type 0
HasLineText (TextForm text) = is_line_text text ≡ true
HasLineText (IfForm expression) = Unit {0}
HasLineText ElseForm = Unit {0}
HasLineText EndForm = Unit {0}
HasLineText NoForm = Unit {0}

-- how many bytes a line of a form has at least
abbrev pub LeastBytes : CondForm → ℕ → Type 0
LeastBytes (TextForm text) size = Unit {0}
LeastBytes (IfForm expression) size = 4 ≤ size
LeastBytes ElseForm size = 1 ≤ size
LeastBytes EndForm size = 1 ≤ size
LeastBytes NoForm size = 1 ≤ size
