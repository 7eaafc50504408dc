use Rattle.std.proofs.Common.{take, sym, ap, subst, ◌∙◌}
use Rattle.std.proofs.Math.Seq.{take-length}
use Rattle.std.proofs.lemmas.Result.{IfOk-weaker}
use Rattle.cov_edit.specs.Numbering.{numbers_of}
use Rattle.cov_edit.specs.Replay.{replay}
use Rattle.cov_visible.specs.Visible.{shown}
use Rattle.cov_view.specs.Seen.{Seen}
use Rattle.cov_view.specs.Views.{Shows}
use Rattle.cov_session.proofs.viewing.view_now.Goals as goal

pub returns-clause-shows : goal.returns-clause-shows
returns-clause-shows c =
    let history = c.args.engine.now.history in
    let whole = ap (λ n. take n history) c.position.ensures ∙ take-length history in
    IfOk-weaker c.view.result _ _
    (λ view is.
    subst (λ (s : Seen). Shows (numbers_of history) (numbers_of history).addresses s (replay c.args.choice history)) (sym is)
    (subst (λ h. Shows (numbers_of h) (numbers_of h).addresses (shown c.visible.result.now c.args.choice c.position.result) (replay c.args.choice h)) whole (c.visible.ensures.shows c.position.result c.args.choice)))
    c.view.ensures

pub returns-clause-nodes : goal.returns-clause-nodes
returns-clause-nodes c = IfOk-weaker c.view.result _ _ (λ view is. ap (λ (s : Seen). s.nodes_made) is) c.view.ensures

pub returns-clause-lines : goal.returns-clause-lines
returns-clause-lines c = IfOk-weaker c.view.result _ _ (λ view is. ap (λ (s : Seen). s.lines_made) is) c.view.ensures
