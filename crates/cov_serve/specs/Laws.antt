-- Laws of what jobs come to.
use Rattle.std.specs.Prelude.{◌≡◌, ℕ, List, ◌++◌}
use Rattle.cov_base.specs.Lines.{lines_of}
use Rattle.cov_edit.specs.declared.command.Command.{Command}
use Rattle.cov_script.specs.Demonstration.{checkout_lines, demo_text, made_lines}
use Rattle.cov_loop.specs.Outcome.{answers}
use Rattle.cov_lines.specs.States.{State, starting}
use Rattle.cov_lines.specs.Step.{step}
use Rattle.cov_serve.specs.Jobs.{history_after, line_turns, replies, rows_of, served_demo}
use Rattle.cov_serve.specs.Program.{demo_line}

-- the turns of lines are what these are answered: the replies and the rows in order, and the history after them
abbrev pub TurnsAreAnswers : Type 0
TurnsAreAnswers = (st : State) (ls : List (List ℕ)) → (replies (line_turns st ls) ≡ (answers step st ls).reply)
    × (rows_of (line_turns st ls) ≡ (answers step st ls).rows)
    × (history_after st.history (line_turns st ls) ≡ (answers step st ls).state.history)

-- what a number's script comes to is what the lines of its text are answered: the replies of its checkouts and a last line, all rows,
-- and the history after them
abbrev pub DemosAreScripts : Type 0
DemosAreScripts = (history : List Command) (number : ℕ) →
    let all = answers step (starting history) (lines_of (demo_text number)) in
    let made = answers step (starting history) (lines_of (made_lines number)) in
    let told = answers step made.state (lines_of checkout_lines) in
    let turns = (served_demo history number).turns in
    (all.reply ≡ made.reply ++ told.reply)
    × (replies turns ≡ told.reply ++ demo_line number)
    × (rows_of turns ≡ all.rows)
    × (history_after history turns ≡ all.state.history)
