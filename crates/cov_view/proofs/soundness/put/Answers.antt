use Rattle.std.proofs.Common.{refl, sym, ap, ◌∙◌}
use Rattle.std.specs.Option.{option_copied}
use Rattle.cov_base.specs.declared.number.NodeRef.TheVariants as nodes
use Rattle.cov_view.specs.Seen.{row_at}
use Rattle.cov_view.proofs.Directories.{Key}
use Rattle.cov_view.proofs.Placed.{put-none, put-row}
use Rattle.cov_view.proofs.soundness.put.Goals as goal

pub returns-in_default : goal.returns-in_default
returns-in_default c = λ done places.
    put-none c.args.rows.now c.args.node done c.args.places.now.entries
    (ap (λ n. row_at c.args.rows.now (nodes.Old n)) (sym c.new.ensures) ∙ sym c.get.ensures ∙ ap option_copied c.in_default.is) places

pub returns : goal.returns
returns c = λ done places.
    let key : Key = record { dir = c.in-Some.row.now.parent; name = c.in_ok-from_slice.field-0 } in
    let put = put-row c.args.rows.now c.args.node done c.args.places.now.entries c.insert.new.self.entries key c.in-Some.row.now
    (ap (λ n. row_at c.args.rows.now (nodes.Old n)) (sym c.new.ensures) ∙ sym c.get.ensures ∙ ap option_copied c.in-Some.is)
    refl (c.in_ok-from_slice.ensures.items ∙ c.as_slice.ensures.bytes) c.in_ok-insert.ensures.entries places in
    (c.in_ok-insert.ensures.old ∙ put.0, put.1)
