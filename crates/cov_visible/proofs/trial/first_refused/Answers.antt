use Rattle.std.proofs.Common.{sym, ap, subst, ◌∙◌}
use Rattle.std.proofs.lemmas.Result.{IfOk-weaker}
use Rattle.cov_base.specs.Rows.{AreOnce}
use Rattle.cov_edit.specs.Sides.{unsided}
use Rattle.cov_tree.specs.Dated.{rows_at}
use Rattle.cov_visible.specs.Trying.{file_shows, place_tried, rows_for}
use Rattle.cov_visible.proofs.NamedRows.{rows-once}
use Rattle.cov_visible.proofs.Trials.{tried-as-seen}
use Rattle.cov_visible.proofs.trial.first_refused.Goals as goal

pub new-requires : goal.new-requires
new-requires c =
    let v = c.args.visible.now in
    let is = c.in_ok-rows.ensures ∙ (λ i. rows_for v c.args.choice c.args.at (c.requires.changing i) (c.requires.nodes i)) in
    subst AreOnce (sym is) (rows-once (unsided c.args.edits.now) (rows_at v.table c.args.choice c.args.at v.entries) c.requires.once)

pub returns : goal.returns
returns c =
    let v = c.args.visible.now in
    let rows = c.in_ok-rows.ensures ∙ (λ i. rows_for v c.args.choice c.args.at (c.requires.changing i) (c.requires.nodes i)) in
    let once = subst AreOnce (sym rows) (rows-once (unsided c.args.edits.now) (rows_at v.table c.args.choice c.args.at v.entries) c.requires.once) in
    IfOk-weaker c.first_refused.result _ _
    (λ found is.
    is ∙ ap (place_tried (file_shows v.table c.args.choice c.args.at v.files) 0 _) c.as_slice.ensures.items
    ∙ tried-as-seen v c.args.choice c.args.at (unsided c.args.edits.now) c.in_ok-rows.rows _ rows c.in_ok-new.ensures c.new-2.ensures.items c.new-3.ensures.empty once)
    c.first_refused.ensures
