-- The lines of a conditional text, one after the other.
use Rattle.std.proofs.Common.{◌≡◌, ℕ, ◌+◌, ◌*◌, ◌<◌, ◌≤◌, ◌^◌, List, ◌∷◌, ◌++◌, length, append_assoc, Result, Ok, Err, refl, sym, ap, ◌∙◌, arith}
use Rattle.std.specs.List.{sum_by}
use Rattle.std.proofs.lemmas.List.Sums.{sum_by-cons}
use Rattle.cov_cond_text.specs.Conditional.{CondLine}
use Rattle.cov_cond_text.specs.Reading.{form_of, after_line, lines_then, then_read, read_from, read_text}
use Rattle.cov_cond_text.specs.Readers.{state_of, done_of, line_size, HasRoom, Takes, IsFaultOf}
use Rattle.cov_cond_text.specs.declared.fault.CondFault.{CondFault}
use Rattle.cov_cond_text.specs.declared.fault.CondFault.TheVariants as faults
use Rattle.cov_cond_text.specs.declared.reader.Reader.{Reader}

-- so many lines were taken, and these are ahead
pub record GoesOn (names : List (List ℕ)) (lines : List (List ℕ)) (number : ℕ) (r : Reader) (ahead : List (List ℕ)) : Type 0 where
  pub answer : read_text names lines ≡ lines_then (done_of r) (read_from names number (state_of r) ahead)
  pub room : HasRoom r
  pub directives : r.directives < number
  pub next : r.runs.next ≤ r.directives
  pub size : number + 2 * length r.blocks.items + sum_by line_size ahead ≤ 2 ^ 32 + 1

then-nothing : (ls ms : List CondLine) (a : Result (List CondLine) CondFault) → lines_then (ls ++ ms) a ≡ lines_then ls (lines_then ms a)
then-nothing ls ms (Ok ns) = ap Ok (append_assoc ls ms ns)
then-nothing ls ms (Err fault) = refl

-- one line more
pub goes_on : (names lines : List (List ℕ)) (number : ℕ) (r new : Reader) (line : List ℕ) (rest : List (List ℕ)) → GoesOn names lines number r (line ∷ rest) → Takes names number line r new → HasRoom new
    → new.runs.next ≤ new.directives → GoesOn names lines (number + 1) new rest
goes_on names lines number r new line rest g t room next = record {
  answer = g.answer
      ∙ ap (λ a. lines_then (done_of r) (then_read a (λ s. read_from names (number + 1) s rest))) t.step
      ∙ sym (then-nothing (done_of r) t.added (read_from names (number + 1) (state_of new) rest))
      ∙ ap (λ ls. lines_then ls (read_from names (number + 1) (state_of new) rest)) (sym t.done);
  room = room;
  directives = omega (arith, g.directives, t.directives);
  next = next;
  size = omega (arith, g.size, t.blocks, sum_by-cons line_size line rest);
}

-- a line at fault
pub stops : (names lines : List (List ℕ)) (number : ℕ) (r : Reader) (line : List ℕ) (rest : List (List ℕ)) (fault : CondFault) → GoesOn names lines number r (line ∷ rest)
    → IsFaultOf (after_line names number (state_of r) (form_of line)) fault → IsFaultOf (read_text names lines) fault
stops names lines number r line rest fault g = by fault
  where
    told : (f : CondFault) → after_line names number (state_of r) (form_of line) ≡ Err f → read_text names lines ≡ Err f
    told f h = g.answer ∙ ap (λ a. lines_then (done_of r) (then_read a (λ s. read_from names (number + 1) s rest))) h

    by : (f : CondFault) → IsFaultOf (after_line names number (state_of r) (form_of line)) f → IsFaultOf (read_text names lines) f
    by faults.Memory h = tt
    by (faults.Syntax n) h = told (faults.Syntax n) h
    by (faults.TooLong n) h = told (faults.TooLong n) h
    by (faults.UnknownOption n name) h = told (faults.UnknownOption n name) h
