-- The texts of replies that aren't one line of a form alone.
use Rattle.std.specs.Prelude.{ℕ, ◌+◌, List, [], ◌∷◌, ◌++◌, length, map, Option, Some, None}
use Rattle.std.specs.List.{concat, range_with_len}
use Rattle.cov_expr.specs.Formula.{Formula}
use Rattle.cov_analyse.specs.States.{option_state, rule_state}
use Rattle.cov_analyse.specs.declared.analysis.OptionState.{OptionState}
use Rattle.cov_analyse.specs.declared.analysis.OptionState.TheVariants as option_states
use Rattle.cov_analyse.specs.declared.analysis.RuleState.{RuleState}
use Rattle.cov_analyse.specs.declared.analysis.RuleState.TheVariants as rule_states
use Rattle.cov_vis.specs.Listings.{ListingValue}
use Rattle.cov_vis.specs.declared.listing.Child.{Child}
use Rattle.cov_vis.specs.declared.listing.Child.TheVariants as children
use Rattle.cov_vis.specs.declared.listing.ListingEntry.{ListingEntry}
use Rattle.cov_alt.specs.declared.line.AltLine.{AltLine}
use Rattle.cov_alt.specs.declared.line.Mark.{Mark}
use Rattle.cov_alt.specs.declared.line.Mark.TheVariants as marks
use Rattle.cov_hist.specs.declared.rows.BlameRow.{BlameRow}
use Rattle.cov_hist.specs.declared.rows.LogRow.{LogRow}
use Rattle.cov_script.specs.Replies.{alt_line, blame_line, count_reply, cat_line, dead_line, forced_line, free_line, list_line, log_line, needed_line, new_line_reply, plain_reply, redundant_line, shown_line, where_line, where_reply}
use Rattle.cov_script.specs.declared.target.Target.{Target}
use Rattle.cov_script.specs.declared.target.Target.TheVariants as targets
use Rattle.cov_view.specs.declared.listing.DirRow.{DirRow}
use Rattle.cov_base.specs.declared.file_row.FileRow.{FileRow}
use Rattle.cov_view.specs.declared.line.ViewLine.{ViewLine}
use Rattle.cov_lines.specs.Editing.{line_seen}

-- the reply to an edit, which gives the number of the line that it inserts, if it does
abbrev pub edit_reply : Option ℕ → List ℕ
edit_reply None = plain_reply
edit_reply (Some i) = new_line_reply i

-- the reply that tells lines, each in this way
abbrev pub lines_reply : {X : Type 0} → (X → List ℕ) → List X → List ℕ
lines_reply tell ls = count_reply (length ls) ++ concat (map tell ls)

-- a line by its number, with its text
abbrev pub numbered_line : ℕ × List ℕ → List ℕ
numbered_line l = cat_line l.0 l.1

-- the reply that tells the lines of a file
abbrev pub file_reply : List (ℕ × List ℕ) → List ℕ
file_reply ls = lines_reply numbered_line ls

-- a line by its number, with its text, as a session sees it, n lines having been made before the session
abbrev pub seen_line : ℕ → ℕ × List ℕ → List ℕ
seen_line n l = shown_line (line_seen n l.0) l.1

-- a line of a file by its number, with its text
abbrev pub file_line : FileRow → List ℕ
file_line l = cat_line l.line l.text

-- a line as a session names it, with its text
abbrev pub view_line : ViewLine → List ℕ
view_line l = shown_line l.line l.text

-- the reply that tells the lines of a file as a session sees them, n lines having been made before the session
abbrev pub seen_reply : ℕ → List (ℕ × List ℕ) → List ℕ
seen_reply n ls = lines_reply (seen_line n) ls

-- a file or directory of a directory
abbrev pub node_line : DirRow → List ℕ
node_line r = list_line r.kind r.name

-- the reply that tells what is in a directory
abbrev pub directory_reply : List DirRow → List ℕ
directory_reply rs = lines_reply node_line rs

-- the byte of a mark: = where both sides have the line, + where on alone has it, - where off alone has it
abbrev pub mark_byte : Mark → ℕ
mark_byte marks.Both = 61
mark_byte marks.OnOnly = 43
mark_byte marks.OffOnly = 45

-- a line of a file with both sides of an option
abbrev pub marked_line : AltLine → List ℕ
marked_line l = alt_line (mark_byte l.mark) l.line l.text

-- where a side of an entry leads, as it is told
abbrev pub target_of : Child → Target
target_of children.F = targets.F
target_of children.T = targets.T
target_of (children.At i) = targets.At i

-- an entry of a listing, with its number
abbrev pub entry_line : List (List ℕ) → ℕ → ListingEntry → List ℕ
entry_line names i e = where_line i names e.option (target_of e.off) (target_of e.on)

-- the entries of a listing, numbered from one on
abbrev pub entry_lines : List (List ℕ) → ℕ → List ListingEntry → List (List ℕ)
entry_lines names i [] = []
entry_lines names i (e ∷ es) = entry_line names i e ∷ entry_lines names (i + 1) es

-- the reply that tells a listing
abbrev pub presence_reply : List (List ℕ) → ListingValue → List ℕ
presence_reply names l = where_reply (length l.entries) (target_of l.root) ++ concat (entry_lines names 0 l.entries)

-- an option by what the rules make of it
abbrev pub option_line : List (List ℕ) → ℕ → OptionState → List ℕ
option_line names option option_states.Dead = dead_line names option
option_line names option option_states.Forced = forced_line names option
option_line names option (option_states.Free off on) = free_line names option off on

-- a constraint by its number and what it adds to the others
abbrev pub rule_line : List (List ℕ) → ℕ → RuleState → List ℕ
rule_line names rule rule_states.Redundant = redundant_line rule
rule_line names rule (rule_states.Needed c) = needed_line rule names c

-- what constraints make of an option
abbrev pub told_option : List (List ℕ) → List (Formula ℕ) → ℕ → List ℕ
told_option names constraints option = option_line names option (option_state (length names) constraints option)

-- what one of constraints adds to the others
abbrev pub told_rule : List (List ℕ) → List (Formula ℕ) → ℕ → List ℕ
told_rule names constraints rule = rule_line names rule (rule_state (length names) constraints rule)

-- the reply that tells of each option what the constraints make of it, and then of each constraint what it adds to the others
abbrev pub analysis_reply : List (List ℕ) → List (Formula ℕ) → List ℕ
analysis_reply names constraints =
    (count_reply (length names + length constraints) ++ concat (map (told_option names constraints) (range_with_len 0 (length names))))
    ++ concat (map (told_rule names constraints) (range_with_len 1 (length constraints)))

-- a commit with how many of its edits apply
abbrev pub logged_line : LogRow → List ℕ
logged_line r = log_line r.position r.edits

-- a line with the commit that it comes from
abbrev pub blamed_line : BlameRow → List ℕ
blamed_line r = blame_line r.position r.line r.text
