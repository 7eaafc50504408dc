-- What the functions that serve a line answer.
use Rattle.std.specs.Prelude.{◌≡◌, ℕ, false, List, [], IfOk, OnOk, Result, Ok, Err}
use Rattle.cov_edit.specs.History.{option_count}
use Rattle.cov_loop.specs.Answers.{Gives, kind_of}
use Rattle.cov_loop.specs.declared.answer.Reply.{Reply}
use Rattle.cov_loop.specs.declared.ending.Ending.{Ending}
use Rattle.cov_script.specs.Replies.{IsCodeOf}
use Rattle.cov_script.specs.declared.code.Code.{Code}
use Rattle.cov_lines.specs.Adding.{command_added}
use Rattle.cov_lines.specs.Finding.{Found}
use Rattle.cov_lines.specs.States.{State}
use Rattle.cov_lines.specs.Step.{Act, Done, plainly, refused}
use Rattle.cov_lines.specs.declared.handled.Addition.{Addition}
use Rattle.cov_lines.specs.declared.handled.Handled.{Handled}
use Rattle.cov_lines.specs.declared.handled.Handled.TheVariants as handled
use Rattle.cov_codes.specs.declared.stop.Stop.{Stop}
use Rattle.cov_codes.specs.declared.stop.Stop.TheVariants as stops

-- a refusal is the one that is wanted, and changes nothing; its code can be told
pub record IsRefused {Y : Type 0} (wanted : Found Y) (old new : State) (code : Code) : Type 0 where
  pub is : wanted ≡ Err code
  pub same : new ≡ old
  pub told : IsCodeOf (option_count old.history) code

-- where memory is wanting, the history is as it was
abbrev pub Stops : {Y : Type 0} → Found Y → State → State → Stop → Type 0
Stops wanted old new stops.Memory = new.history ≡ old.history
Stops wanted old new (stops.Refused code) = IsRefused wanted old new code

-- the state after a line, and its reply, are those that are wanted
abbrev pub Acts : Act → State → State → Result (List ℕ) Stop → Type 0
Acts wanted old new (Ok reply) = wanted ≡ Ok (new, reply)
Acts wanted old new (Err stop) = Stops wanted old new stop

-- the state after a change is the one that is wanted
abbrev pub Changes : {X : Type 0} → Found State → State → State → Result X Stop → Type 0
Changes wanted old new (Ok x) = wanted ≡ Ok new
Changes wanted old new (Err stop) = Stops wanted old new stop

-- what is found in a state is what is wanted
abbrev pub Finds : {X : Type 0} → Found X → State → Result X Stop → Type 0
Finds wanted st (Ok x) = wanted ≡ Ok x
Finds wanted st (Err stop) = Stops wanted st st stop

-- a line is done as it is wanted: the state after it, its reply and the rows that it writes
pub record IsDone (wanted : Found Done) (new : State) (reply : Reply) : Type 0 where
  pub is : wanted ≡ Ok (record { state = new; reply = reply.text; rows = reply.rows })
  pub answer : reply.answer ≡ kind_of reply.text false

-- a reply without rows is this text, and refuses nothing
pub record IsPlain (text : List ℕ) (reply : Reply) : Type 0 where
  pub text_is : reply.text ≡ text
  pub rows : reply.rows ≡ []
  pub answer : reply.answer ≡ kind_of text false

-- a line is done as it is wanted, and its history is as before
abbrev pub AnswersNow : Found Done → State → State → Result Reply Stop → Type 0
AnswersNow wanted old new (Ok reply) = IsDone wanted new reply × (new.history ≡ old.history)
AnswersNow wanted old new (Err stop) = Stops wanted old new stop

-- a line adds a command, and nothing has changed yet
pub record IsAdding (wanted : Found Done) (old new : State) (a : Addition) : Type 0 where
  pub is : wanted ≡ plainly (command_added old a)
  pub same : new ≡ old

-- a line is handled as it is wanted: it is done, and its history is as before, or the command that it adds is known
abbrev pub Handles : Found Done → State → State → Result Handled Stop → Type 0
Handles wanted old new (Ok (handled.Done reply)) = IsDone wanted new reply × (new.history ≡ old.history)
Handles wanted old new (Ok (handled.Adds addition)) = IsAdding wanted old new addition
Handles wanted old new (Err stop) = Stops wanted old new stop

-- a refusal can be told
abbrev pub CanBeTold : State → Stop → Type 0
CanBeTold st stops.Memory = Unit {0}
CanBeTold st (stops.Refused code) = IsCodeOf (option_count st.history) code

-- a line is refused, or not answered where memory is wanting
abbrev pub Refuses : State → Stop → Result Reply Ending → Type 0
Refuses st stops.Memory result = OnOk result ⊥
Refuses st (stops.Refused code) result = IfOk result (Gives (refused st code) st)
