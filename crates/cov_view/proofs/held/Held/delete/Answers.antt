use Rattle.std.proofs.Common.{◌≡◌, ◌∙◌, ap, sym}
use Rattle.std.proofs.lemmas.List.{with_items_is}
use Rattle.cov_view.specs.Held.{left}
use Rattle.cov_view.specs.Lines.{without_ref}
use Rattle.cov_view.proofs.Left.{left_filled}
use Rattle.cov_view.proofs.held.Held.delete.Goals as goal

pub returns : goal.returns
returns c =
    let rows : c.as_slice-rows.result.now ≡ c.self.inside.rows = c.as_slice-rows.ensures ∙ c.lend.ensures in
    ap (left c.self.inside.rows) (with_items_is c.fill.new.gone c.take_out.new.gone (c.take_out.auto.gone ∙ c.as_mut_slice.ensures.len))
    ∙ ap (λ rs. left rs c.take_out.new.gone) (sym rows)
    ∙ c.take_out.ensures.left
    ∙ (λ j. without_ref c.args.line.now (left (rows j) ((c.as_mut_slice.ensures.value ∙ c.fill.ensures.items) j)))
    ∙ ap (without_ref c.args.line.now) (left_filled c.self.inside.rows c.self.inside.gone.items _ ∙ c.self.view_is)
