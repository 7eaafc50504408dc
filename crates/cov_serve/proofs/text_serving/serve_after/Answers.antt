use Rattle.std.proofs.Common.{◌≡◌, ◌∙◌, ◌++◌, inl, inr, sym, ap, subst, append_assoc, List, true, refl, Some}
use Rattle.cov_base.specs.Lines.{lines_of}
use Rattle.cov_loop.specs.Keeping.{AddsNoCommand}
use Rattle.cov_loop.specs.Outcome.{Outcome, answers}
use Rattle.cov_loop.specs.Turns.{HasRows, RowsComeFirst, WritesFront}
use Rattle.cov_out.specs.declared.row.OutRow.{OutRow}
use Rattle.cov_serve.specs.TextServing.{answers_after, is_end}
use Rattle.cov_serve.proofs.Runs.{none_more}
use Rattle.cov_serve.proofs.TextServing.{at_end, end_to, first_adds_none, front_first_of, front_second_of, rows_end, second_adds_none}
use Rattle.cov_serve.proofs.text_serving.serve_after.Given.{Over}
use Rattle.cov_serve.proofs.text_serving.serve_after.Goals as goal
use Rattle.cov_serve.proofs.text_serving.serve_after.Goals.{After-serve_text}

-- what the first text gives
abbrev made_gives : (g : Over) → After-serve_text g → Outcome g.V.LineServer.State
made_gives g c = answers g.V.LineServer.step (g.V.LineServer.state_of c.args.server.now) (lines_of c.args.made)

-- it was served to its end, with its state
served_to : (g : Over) (c : After-serve_text g) → is_end c.serve_text-ending.result ≡ true
served_to g c = sym c.is_end.ensures ∙ c.if-is_end.true

then_state : (g : Over) (c : After-serve_text g) → g.V.LineServer.state_of c.serve_text-ending.new.server ≡ (made_gives g c).state
then_state g c = at_end c.serve_text-ending.result (g.V.LineServer.state_of c.serve_text-ending.new.server ≡ (made_gives g c).state) (served_to g c) c.serve_text-ending.ensures.state

-- and all its rows were written
then_rows : (g : Over) (c : After-serve_text g) (before : List OutRow) → g.T.Trees.rows c.args.trees.now ≡ Some before
    → g.T.Trees.rows c.serve_text-ending.new.trees ≡ Some (before ++ (made_gives g c).rows)
then_rows g c before grew =
    let grown = g.T.Trees.rows c.serve_text-ending.new.trees in
    at_end c.serve_text-ending.result (grown ≡ Some (before ++ (made_gives g c).rows)) (served_to g c)
    (rows_end c.serve_text-ending.result (made_gives g c) before grown (c.serve_text-ending.ensures.rows_whole before grew))

-- what the second text gives
abbrev told_gives : (g : Over) → After-serve_text g → g.V.LineServer.State → Outcome g.V.LineServer.State
told_gives g c state = answers g.V.LineServer.step state (lines_of c.args.told)

pub returns-then-is_end-clause-rows : goal.returns-then-is_end-clause-rows
returns-then-is_end-clause-rows g c before grew =
    let arm = (goal.at.returns-then-is_end-clause-rows g c).After-serve_text in
    let first = made_gives g arm in
    let grown = g.T.Trees.rows arm.serve_text.new.trees in
    front_second_of before first.rows (told_gives g arm first.state).rows grown
    (subst (λ s. WritesFront (before ++ first.rows) (told_gives g arm s).rows grown) (then_state g arm)
    (arm.serve_text.ensures.rows_prefix (before ++ first.rows) (then_rows g arm before grew)))

pub returns-then-is_end-clause-rows_whole : goal.returns-then-is_end-clause-rows_whole
returns-then-is_end-clause-rows_whole g c before grew =
    let arm = (goal.at.returns-then-is_end-clause-rows_whole g c).After-serve_text in
    let first = made_gives g arm in
    let ending = arm.serve_text.result in
    let grown = g.T.Trees.rows arm.serve_text.new.trees in
    end_to ending (grown ≡ Some ((before ++ first.rows) ++ (told_gives g arm first.state).rows)) (grown ≡ Some (before ++ (first.rows ++ (told_gives g arm first.state).rows)))
    (λ e. e ∙ ap Some (append_assoc before first.rows (told_gives g arm first.state).rows))
    (rows_end ending (told_gives g arm first.state) (before ++ first.rows) grown
    (subst (λ s. HasRows ending (told_gives g arm s) (before ++ first.rows) grown) (then_state g arm)
    (arm.serve_text.ensures.rows_whole (before ++ first.rows) (then_rows g arm before grew))))

pub returns-then-is_end-clause-rows_first : goal.returns-then-is_end-clause-rows_first
returns-then-is_end-clause-rows_first g c before rows wrote grew =
    let arm = (goal.at.returns-then-is_end-clause-rows_first g c).After-serve_text in
    let first = made_gives g arm in
    let written = g.K.Sink.written arm.serve_text.new.out in
    let grown = g.T.Trees.rows arm.serve_text.new.trees in
    inr (subst (λ s. RowsComeFirst g.V.LineServer.step s (lines_of arm.args.told) before (rows ++ first.rows) written grown) (then_state g arm)
    (arm.serve_text.ensures.rows_first before (rows ++ first.rows) wrote (then_rows g arm rows grew)))

pub returns-then-is_end-clause-unwritten : goal.returns-then-is_end-clause-unwritten
returns-then-is_end-clause-unwritten g c few =
    let arm = (goal.at.returns-then-is_end-clause-unwritten g c).After-serve_text in
    let server = g.V.LineServer in
    let start = server.state_of arm.args.server.now in
    let rises = g.met.V.LineServer.counts_rise in
    arm.serve_text.ensures.unwritten
    (subst (λ s. AddsNoCommand server.count s (told_gives g arm s)) (sym (then_state g arm)) (second_adds_none server.step server.count rises start arm.args.made arm.args.told few))
    ∙ arm.serve_text-ending.ensures.unwritten (first_adds_none server.step server.count rises start arm.args.made arm.args.told few)

pub returns-clause-unwritten : goal.returns-clause-unwritten
returns-clause-unwritten g c few =
    let server = g.V.LineServer in
    c.serve_text-ending.ensures.unwritten
    (first_adds_none server.step server.count g.met.V.LineServer.counts_rise (server.state_of c.args.server.now) c.args.made c.args.told few)

pub returns-clause-rows : goal.returns-clause-rows
returns-clause-rows g c before grew =
    let step = g.V.LineServer.step in
    let state = g.V.LineServer.state_of c.args.server.now in
    front_first_of before (answers step state (lines_of c.args.made)).rows (answers_after step state c.args.made c.args.told).rows (g.T.Trees.rows c.serve_text-ending.new.trees)
    (c.serve_text-ending.ensures.rows_prefix before grew)

pub returns-clause-rows_first : goal.returns-clause-rows_first
returns-clause-rows_first g c before rows wrote grew =
    let step = g.V.LineServer.step in
    let state = g.V.LineServer.state_of c.args.server.now in
    inl (
      wrote,
      front_first_of rows (answers step state (lines_of c.args.made)).rows (answers_after step state c.args.made c.args.told).rows (g.T.Trees.rows c.serve_text-ending.new.trees)
          (c.serve_text-ending.ensures.rows_prefix rows grew),
    )

pub returns-clause-acknowledged : goal.returns-clause-acknowledged
returns-clause-acknowledged g c before bytes all wrote writes image now =
    let written = g.K.Sink.written c.args.out.now in
    let run = c.serve_text-ending.ensures.any_moment all in
    inl (
      none_more before bytes written written refl wrote writes,
      inl (run.each image (g.met.D.Disk.counts_now c.serve_text-ending.new.disk (g.D.Disk.moment c.args.disk.now) image run.later now)),
    )
