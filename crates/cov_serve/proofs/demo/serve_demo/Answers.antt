use Rattle.std.proofs.Common.{◌≡◌, ◌∙◌, ◌++◌, inl, refl, sym, ap, subst, arith, ℕ, ◌≤◌, true, List, length, Some, IfSome}
use Rattle.cov_disk.specs.Images.{LeavesOnly}
use Rattle.cov_edit.specs.declared.command.Command.{Command}
use Rattle.cov_journal.proofs.CallerLemmas.{some_to, started}
use Rattle.cov_loop.specs.Keeping.{AddsNoCommand, AreAll}
use Rattle.cov_loop.specs.Turns.{AtEnd, WritesFront}
use Rattle.cov_out.specs.declared.row.OutRow.{OutRow}
use Rattle.cov_script.specs.Demonstration.{checkout_lines, made_lines}
use Rattle.cov_serve.specs.Jobs.{StandsForFront, history_after, replies, rows_of, served_demo}
use Rattle.cov_serve.specs.Program.{demo_line}
use Rattle.cov_lines.specs.States.{State, starting}
use Rattle.cov_lines.specs.Step.{model, step}
use Rattle.cov_lines.specs.Storing.{count, stored}
use Rattle.cov_serve.specs.TextServing.{KeepsAfter, ReachesAfter, RowsComeAfter, answers_after, is_end, rows_after}
use Rattle.cov_store.specs.Stands.{IsStored, StandsFor}
use Rattle.cov_serve.proofs.Checkouts.{checkout_answered, checkouts_are, checkouts_keep, first_checkout, other_checkouts}
use Rattle.cov_serve.proofs.Crashing.{stands_for}
use Rattle.cov_serve.proofs.Runs.{leaves_weaker, none_more}
use Rattle.cov_serve.proofs.TextServing.{at_end}
use Rattle.cov_serve.proofs.TurnsAfter.{at_texts, front_after, front_ended, front_start, front_unended, last_are, rows_ended, rows_front, rows_precede_after, rows_precede_end, stands_whole, told_after, told_end, told_unwritten, whole_ended}
use Rattle.cov_serve.proofs.Unopened.{line_served, none_written, writes_all, writes_some}
use Rattle.cov_serve.proofs.demo.serve_demo.Given.{Over}
use Rattle.cov_serve.proofs.demo.serve_demo.Goals as goal
use Rattle.cov_serve.proofs.demo.serve_demo.Goals.{After-put_demo, After-from}

-- the script was served to its end: its texts, and what is left and written
then_texts : (g : Over) (c : After-put_demo g) (history : List Command) → c.args.server.state ≡ starting history → (P : State → List ℕ → List ℕ → Type 0)
    → P c.args.server.state c.in-Ok.made c.in-Ok.told → P (starting history) (made_lines c.args.number) checkout_lines
then_texts g c history begins P h =
    at_texts P c.args.server.state (starting history) c.in-Ok.made (made_lines c.args.number) c.in-Ok.told checkout_lines begins c.in-Ok.ensures.made c.in-Ok.ensures.told h

then_stored : (g : Over) (c : After-put_demo g) (history : List Command) → c.args.server.state ≡ starting history → AreAll (λ image. IsStored image history) (g.D.Disk.images c.args.disk.now)
    → AreAll (stored c.args.server.state) (g.D.Disk.images c.args.disk.now)
then_stored g c history begins all image now = subst (λ s. stored s image) (sym begins) (all image now)

then_leaves : (g : Over) (c : After-put_demo g) (history : List Command) → c.args.server.state ≡ starting history → AreAll (λ image. IsStored image history) (g.D.Disk.images c.args.disk.now)
    → LeavesOnly g.D.Disk.moment g.D.Disk.images_since c.args.disk.now c.serve_after-ending.new.disk (StandsForFront history (served_demo history c.args.number).turns)
then_leaves g c history begins all =
    let made = made_lines c.args.number in
    let line = demo_line c.args.number in
    leaves_weaker g.D.Disk.moment g.D.Disk.images_since c.args.disk.now c.serve_after-ending.new.disk (ReachesAfter step (starting history) made checkout_lines stored)
    (StandsForFront history (served_demo history c.args.number).turns) (front_after history made checkout_lines line)
    (then_texts g c history begins (λ s m t. LeavesOnly g.D.Disk.moment g.D.Disk.images_since c.args.disk.now c.serve_after-ending.new.disk (ReachesAfter step s m t stored))
    (c.serve_after-ending.ensures.any_moment (then_stored g c history begins all)))

then_rows : (g : Over) (c : After-put_demo g) (history : List Command) (before : List OutRow) → c.args.server.state ≡ starting history → g.T.Trees.rows c.args.trees.now ≡ Some before
    → WritesFront before (rows_of (served_demo history c.args.number).turns) (g.T.Trees.rows c.serve_after-ending.new.trees)
then_rows g c history before begins grew =
    let grown = g.T.Trees.rows c.serve_after-ending.new.trees in
    rows_front history (made_lines c.args.number) checkout_lines (demo_line c.args.number) before grown
    (then_texts g c history begins (λ s m t. WritesFront before (rows_after step s m t) grown) (c.serve_after-ending.ensures.rows before grew))

then_ended : (g : Over) (c : After-put_demo g) → is_end c.serve_after-ending.result ≡ true
then_ended g c = sym c.is_end.ensures ∙ c.if-is_end.true

-- what the checkouts are replied, and the history at the end
abbrev told_of : List Command → ℕ → List ℕ
told_of history number = (answers_after step (starting history) (made_lines number) checkout_lines).reply

abbrev end_of : List Command → ℕ → List Command
end_of history number = (answers_after step (starting history) (made_lines number) checkout_lines).state.history

then_written : (g : Over) (c : After-put_demo g) (history : List Command) (before : List ℕ) → c.args.server.state ≡ starting history → g.K.Sink.written c.args.out.now ≡ Some before
    → g.K.Sink.written c.serve_after-ending.new.out ≡ Some (before ++ told_of history c.args.number)
then_written g c history before begins wrote =
    let ending = c.serve_after-ending.result in
    let written = g.K.Sink.written c.serve_after-ending.new.out in
    at_end ending (written ≡ Some (before ++ told_of history c.args.number)) (then_ended g c)
    (then_texts g c history begins (λ s m t. AtEnd ending (written ≡ Some (before ++ (answers_after step s m t).reply))) (c.serve_after-ending.ensures.whole before wrote))

then_front : (g : Over) (c : After-put_demo g) (history : List Command) (before : List ℕ) → c.args.server.state ≡ starting history → g.K.Sink.written c.args.out.now ≡ Some before
    → WritesFront before (replies (served_demo history c.args.number).turns) (g.K.Sink.written c.put_demo.new.out)
then_front g c history before begins wrote =
    let line = demo_line c.args.number in
    let now = g.K.Sink.written c.put_demo.new.out in
    front_ended history (made_lines c.args.number) checkout_lines line before now
    (writes_some (before ++ told_of history c.args.number) line (g.K.Sink.written c.serve_after-ending.new.out) now c.put_demo.ensures.puts.front (then_written g c history before begins wrote))

then_grown : (g : Over) (c : After-put_demo g) (history : List Command) (before : List OutRow) → c.args.server.state ≡ starting history → g.T.Trees.rows c.args.trees.now ≡ Some before
    → g.T.Trees.rows c.serve_after-ending.new.trees ≡ Some (before ++ rows_after step (starting history) (made_lines c.args.number) checkout_lines)
then_grown g c history before begins grew =
    let ending = c.serve_after-ending.result in
    let grown = g.T.Trees.rows c.serve_after-ending.new.trees in
    at_end ending (grown ≡ Some (before ++ rows_after step (starting history) (made_lines c.args.number) checkout_lines)) (then_ended g c)
    (then_texts g c history begins (λ s m t. AtEnd ending (grown ≡ Some (before ++ rows_after step s m t))) (c.serve_after-ending.ensures.rows_whole before grew))

-- each image is stored for the whole history
then_durable : (g : Over) (c : After-put_demo g) (history : List Command) → c.args.server.state ≡ starting history → AreAll (λ image. IsStored image history) (g.D.Disk.images c.args.disk.now)
    → AreAll (λ image. IsStored image (end_of history c.args.number)) (g.D.Disk.images c.serve_after-ending.new.disk)
then_durable g c history begins all =
    let ending = c.serve_after-ending.result in
    let images = g.D.Disk.images c.serve_after-ending.new.disk in
    at_end ending (AreAll (λ image. IsStored image (end_of history c.args.number)) images) (then_ended g c)
    (then_texts g c history begins (λ s m t. AtEnd ending (AreAll (stored (answers_after step s m t).state) images)) (c.serve_after-ending.ensures.durable (then_stored g c history begins all)))

pub returns-then-is_end-clause-front : goal.returns-then-is_end-clause-front
returns-then-is_end-clause-front g c history before begins wrote = then_front g (goal.at.returns-then-is_end-clause-front g c).After-put_demo history before begins wrote

pub returns-then-is_end-clause-whole : goal.returns-then-is_end-clause-whole
returns-then-is_end-clause-whole g c history before begins wrote =
    let arm = (goal.at.returns-then-is_end-clause-whole g c).After-put_demo in
    let line = demo_line arm.args.number in
    let now = g.K.Sink.written arm.put_demo.new.out in
    line_served (g.K.Sink.faults arm.serve_after-ending.new.out) (g.K.Sink.faults arm.put_demo.new.out) arm.put_demo.result (now ≡ Some (before ++ replies (served_demo history arm.args.number).turns)) arm.put_demo.ensures.puts.ends
    (λ e. whole_ended history (made_lines arm.args.number) checkout_lines line before now
    (writes_all (before ++ told_of history arm.args.number) line (g.K.Sink.written arm.serve_after-ending.new.out) now (arm.put_demo.ensures.puts.whole e) (then_written g arm history before begins wrote)))

pub returns-then-is_end-clause-stands : goal.returns-then-is_end-clause-stands
returns-then-is_end-clause-stands g c history begins here =
    let arm = (goal.at.returns-then-is_end-clause-stands g c).After-put_demo in
    let ending = arm.serve_after-ending.result in
    let contents = g.D.Disk.contents arm.serve_after-ending.new.disk in
    let last = history_after history (served_demo history arm.args.number).turns in
    line_served (g.K.Sink.faults arm.serve_after-ending.new.out) (g.K.Sink.faults arm.put_demo.new.out) arm.put_demo.result (IfSome contents (λ image. StandsFor image last)) arm.put_demo.ensures.puts.ends
    (λ e. some_to (λ image. IsStored image (end_of history arm.args.number)) (λ image. StandsFor image last)
    (λ image is. subst (StandsFor image) (sym (last_are history (made_lines arm.args.number) checkout_lines (demo_line arm.args.number))) (stands_for image (end_of history arm.args.number) is)) contents
    (at_end ending (IfSome contents (λ image. IsStored image (end_of history arm.args.number))) (then_ended g arm)
    (then_texts g arm history begins (λ s m t. AtEnd ending (IfSome contents (stored (answers_after step s m t).state)))
    (arm.serve_after-ending.ensures.stored (subst (λ s. IfSome (g.D.Disk.contents arm.args.disk.now) (stored s)) (sym begins) here)))))

pub returns-then-is_end-clause-rows : goal.returns-then-is_end-clause-rows
returns-then-is_end-clause-rows g c history before begins grew = then_rows g (goal.at.returns-then-is_end-clause-rows g c).After-put_demo history before begins grew

pub returns-then-is_end-clause-rows_whole : goal.returns-then-is_end-clause-rows_whole
returns-then-is_end-clause-rows_whole g c history before begins grew =
    let arm = (goal.at.returns-then-is_end-clause-rows_whole g c).After-put_demo in
    let grown = g.T.Trees.rows arm.serve_after-ending.new.trees in
    line_served (g.K.Sink.faults arm.serve_after-ending.new.out) (g.K.Sink.faults arm.put_demo.new.out) arm.put_demo.result (grown ≡ Some (before ++ rows_of (served_demo history arm.args.number).turns)) arm.put_demo.ensures.puts.ends
    (λ e. rows_ended history (made_lines arm.args.number) checkout_lines (demo_line arm.args.number) before grown (then_grown g arm history before begins grew))

pub returns-then-is_end-clause-rows_first : goal.returns-then-is_end-clause-rows_first
returns-then-is_end-clause-rows_first g c history before rows begins wrote grew =
    let arm = (goal.at.returns-then-is_end-clause-rows_first g c).After-put_demo in
    let front = then_front g arm history before begins wrote in
    rows_precede_end history (made_lines arm.args.number) checkout_lines (demo_line arm.args.number) before front.first rows (g.K.Sink.written arm.put_demo.new.out) (g.T.Trees.rows arm.serve_after-ending.new.trees)
    front.is (then_grown g arm history rows begins grew)

pub returns-then-is_end-clause-any_moment : goal.returns-then-is_end-clause-any_moment
returns-then-is_end-clause-any_moment g c history begins all = then_leaves g (goal.at.returns-then-is_end-clause-any_moment g c).After-put_demo history begins all

pub returns-then-is_end-clause-acknowledged : goal.returns-then-is_end-clause-acknowledged
returns-then-is_end-clause-acknowledged g c history before bytes begins all wrote writes image now =
    let arm = (goal.at.returns-then-is_end-clause-acknowledged g c).After-put_demo in
    told_end history (made_lines arm.args.number) checkout_lines (demo_line arm.args.number) bytes image
    (stands_for image (end_of history arm.args.number) (then_durable g arm history begins all image now))

pub returns-then-is_end-clause-stored_first : goal.returns-then-is_end-clause-stored_first
returns-then-is_end-clause-stored_first g c history before bytes begins all wrote writes some image now =
    let arm = (goal.at.returns-then-is_end-clause-stored_first g c).After-put_demo in
    subst (StandsFor image) (sym (last_are history (made_lines arm.args.number) checkout_lines (demo_line arm.args.number)))
    (stands_for image (end_of history arm.args.number) (then_durable g arm history begins all image now))

-- what the texts leave where they add no command
texts_add_none : (history : List Command) (number : ℕ) → length (history_after history (served_demo history number).turns) ≤ length history
    → AddsNoCommand count (starting history) (answers_after step (starting history) (made_lines number) checkout_lines)
texts_add_none history number few = subst (λ (h : List Command). length h ≤ length history) (last_are history (made_lines number) checkout_lines (demo_line number)) few

pub returns-then-is_end-clause-unwritten : goal.returns-then-is_end-clause-unwritten
returns-then-is_end-clause-unwritten g c history begins few =
    let arm = (goal.at.returns-then-is_end-clause-unwritten g c).After-put_demo in
    then_texts g arm history begins (λ s m t. AddsNoCommand count s (answers_after step s m t) → arm.serve_after-ending.new.disk ≡ arm.args.disk.now)
    arm.serve_after-ending.ensures.unwritten (texts_add_none history arm.args.number few)

-- it was not: its texts, and what is left and written
else_texts : (g : Over) (c : After-from g) (history : List Command) → c.args.server.state ≡ starting history → (P : State → List ℕ → List ℕ → Type 0)
    → P c.args.server.state c.in-Ok.made c.in-Ok.told → P (starting history) (made_lines c.args.number) checkout_lines
else_texts g c history begins P h =
    at_texts P c.args.server.state (starting history) c.in-Ok.made (made_lines c.args.number) c.in-Ok.told checkout_lines begins c.in-Ok.ensures.made c.in-Ok.ensures.told h

else_stored : (g : Over) (c : After-from g) (history : List Command) → c.args.server.state ≡ starting history → AreAll (λ image. IsStored image history) (g.D.Disk.images c.args.disk.now)
    → AreAll (stored c.args.server.state) (g.D.Disk.images c.args.disk.now)
else_stored g c history begins all image now = subst (λ s. stored s image) (sym begins) (all image now)

else_leaves : (g : Over) (c : After-from g) (history : List Command) → c.args.server.state ≡ starting history → AreAll (λ image. IsStored image history) (g.D.Disk.images c.args.disk.now)
    → LeavesOnly g.D.Disk.moment g.D.Disk.images_since c.args.disk.now c.serve_after-ending.new.disk (StandsForFront history (served_demo history c.args.number).turns)
else_leaves g c history begins all =
    let made = made_lines c.args.number in
    let line = demo_line c.args.number in
    leaves_weaker g.D.Disk.moment g.D.Disk.images_since c.args.disk.now c.serve_after-ending.new.disk (ReachesAfter step (starting history) made checkout_lines stored)
    (StandsForFront history (served_demo history c.args.number).turns) (front_after history made checkout_lines line)
    (else_texts g c history begins (λ s m t. LeavesOnly g.D.Disk.moment g.D.Disk.images_since c.args.disk.now c.serve_after-ending.new.disk (ReachesAfter step s m t stored))
    (c.serve_after-ending.ensures.any_moment (else_stored g c history begins all)))

else_rows : (g : Over) (c : After-from g) (history : List Command) (before : List OutRow) → c.args.server.state ≡ starting history → g.T.Trees.rows c.args.trees.now ≡ Some before
    → WritesFront before (rows_of (served_demo history c.args.number).turns) (g.T.Trees.rows c.serve_after-ending.new.trees)
else_rows g c history before begins grew =
    let grown = g.T.Trees.rows c.serve_after-ending.new.trees in
    rows_front history (made_lines c.args.number) checkout_lines (demo_line c.args.number) before grown
    (else_texts g c history begins (λ s m t. WritesFront before (rows_after step s m t) grown) (c.serve_after-ending.ensures.rows before grew))

else_keeps : (g : Over) (c : After-from g) (history : List Command) (before bytes : List ℕ) → c.args.server.state ≡ starting history → AreAll (λ image. IsStored image history) (g.D.Disk.images c.args.disk.now)
    → g.K.Sink.written c.args.out.now ≡ Some before → g.K.Sink.written c.serve_after-ending.new.out ≡ Some (before ++ bytes)
    → AreAll (KeepsAfter step (starting history) (made_lines c.args.number) checkout_lines stored count bytes) (g.D.Disk.images c.serve_after-ending.new.disk)
else_keeps g c history before bytes begins all wrote writes image now =
    else_texts g c history begins (λ s m t. KeepsAfter step s m t stored count bytes image) (c.serve_after-ending.ensures.acknowledged before bytes (else_stored g c history begins all) wrote writes image now)

pub returns-else-is_end-clause-front : goal.returns-else-is_end-clause-front
returns-else-is_end-clause-front g c history before begins wrote =
    let arm = (goal.at.returns-else-is_end-clause-front g c).After-from in
    let written = g.K.Sink.written arm.serve_after-ending.new.out in
    front_unended history (made_lines arm.args.number) checkout_lines (demo_line arm.args.number) before written
    (else_texts g arm history begins (λ s m t. WritesFront before (answers_after step s m t).reply written) (arm.serve_after-ending.ensures.prefix before wrote))

pub returns-else-is_end-clause-rows : goal.returns-else-is_end-clause-rows
returns-else-is_end-clause-rows g c history before begins grew = else_rows g (goal.at.returns-else-is_end-clause-rows g c).After-from history before begins grew

pub returns-else-is_end-clause-rows_first : goal.returns-else-is_end-clause-rows_first
returns-else-is_end-clause-rows_first g c history before rows begins wrote grew =
    let arm = (goal.at.returns-else-is_end-clause-rows_first g c).After-from in
    let made = made_lines arm.args.number in
    let written = g.K.Sink.written arm.serve_after-ending.new.out in
    let grown = g.T.Trees.rows arm.serve_after-ending.new.trees in
    rows_precede_after history made checkout_lines (demo_line arm.args.number) first_checkout other_checkouts checkouts_are (checkout_answered (model history made).state) before rows written grown
    (else_texts g arm history begins (λ s m t. RowsComeAfter step s m t before rows written grown) (arm.serve_after-ending.ensures.rows_first before rows wrote grew))

pub returns-else-is_end-clause-any_moment : goal.returns-else-is_end-clause-any_moment
returns-else-is_end-clause-any_moment g c history begins all = else_leaves g (goal.at.returns-else-is_end-clause-any_moment g c).After-from history begins all

pub returns-else-is_end-clause-acknowledged : goal.returns-else-is_end-clause-acknowledged
returns-else-is_end-clause-acknowledged g c history before bytes begins all wrote writes image now =
    let arm = (goal.at.returns-else-is_end-clause-acknowledged g c).After-from in
    let made = made_lines arm.args.number in
    told_after history made checkout_lines (demo_line arm.args.number) first_checkout other_checkouts checkouts_are (checkout_answered (model history made).state) bytes image
    (else_keeps g arm history before bytes begins all wrote writes image now)

pub returns-else-is_end-clause-stored_first : goal.returns-else-is_end-clause-stored_first
returns-else-is_end-clause-stored_first g c history before bytes begins all wrote writes some image now =
    let arm = (goal.at.returns-else-is_end-clause-stored_first g c).After-from in
    let made = made_lines arm.args.number in
    stands_whole history made checkout_lines (demo_line arm.args.number) (checkouts_keep (model history made).state) bytes image some (else_keeps g arm history before bytes begins all wrote writes image now)

pub returns-else-is_end-clause-unwritten : goal.returns-else-is_end-clause-unwritten
returns-else-is_end-clause-unwritten g c history begins few =
    let arm = (goal.at.returns-else-is_end-clause-unwritten g c).After-from in
    else_texts g arm history begins (λ s m t. AddsNoCommand count s (answers_after step s m t) → arm.serve_after-ending.new.disk ≡ arm.args.disk.now)
    arm.serve_after-ending.ensures.unwritten (texts_add_none history arm.args.number few)

-- no memory is to be had for the script
pub returns-in-Err-clause-rows_first : goal.returns-in-Err-clause-rows_first
returns-in-Err-clause-rows_first g c history before rows begins wrote grew =
    let made = made_lines c.args.number in
    let written = g.K.Sink.written c.args.out.now in
    let grown = g.T.Trees.rows c.args.trees.now in
    rows_precede_after history made checkout_lines (demo_line c.args.number) first_checkout other_checkouts checkouts_are (checkout_answered (model history made).state) before rows written grown
    (inl (wrote, none_written rows (rows_after step (starting history) made checkout_lines) grown grew))

pub returns-in-Err-clause-any_moment : goal.returns-in-Err-clause-any_moment
returns-in-Err-clause-any_moment g c history begins all =
    started g.D.Disk.moment g.D.Disk.images_since c.args.disk.now (StandsForFront history (served_demo history c.args.number).turns)
    (λ image since.
    front_start history (made_lines c.args.number) checkout_lines (demo_line c.args.number) image (stands_for image history (all image (g.met.D.Disk.only_now c.args.disk.now image since))))

pub returns-in-Err-clause-acknowledged : goal.returns-in-Err-clause-acknowledged
returns-in-Err-clause-acknowledged g c history before bytes begins all wrote writes image now =
    let made = made_lines c.args.number in
    let line = demo_line c.args.number in
    let written = g.K.Sink.written c.args.out.now in
    told_unwritten history made checkout_lines line first_checkout other_checkouts checkouts_are (checkout_answered (model history made).state) bytes image (none_more before bytes written written refl wrote writes)
    (front_start history made checkout_lines line image (stands_for image history (all image now)))

pub returns-in-Err-clause-stored_first : goal.returns-in-Err-clause-stored_first
returns-in-Err-clause-stored_first g c history before bytes begins all wrote writes some image now =
    let written = g.K.Sink.written c.args.out.now in
    absurd (omega (arith, some, ap length (none_more before bytes written written refl wrote writes)))
