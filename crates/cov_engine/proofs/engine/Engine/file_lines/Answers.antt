use Rattle.std.proofs.Common.{map, sym, ap, subst, ◌∙◌}
use Rattle.std.specs.Option.{option_copied}
use Rattle.std.proofs.lemmas.Result.{IfOk-weaker}
use Rattle.cov_edit.specs.Touched.{AreRising}
use Rattle.cov_history.specs.Files.{file_dated}
use Rattle.cov_history.specs.Kept.{kept_of}
use Rattle.cov_visible.specs.Parts.{part_node, part_of}
use Rattle.cov_engine.specs.States.{EngineValue}
use Rattle.cov_engine.specs.Visibility.{as_row}
use Rattle.cov_engine.proofs.Visibilities.{all-kept, none-kept}
use Rattle.cov_engine.proofs.Wholes.{held-rise}
use Rattle.cov_engine.proofs.engine.Engine.file_lines.Goals as goal

pub part_of-requires : goal.part_of-requires
part_of-requires c = record { rising = subst (λ files. AreRising (map part_node files)) (sym c.as_slice.ensures) (held-rise c.self.inside.state.commands.commands c.self.inside.state.visible.table c.self.inside.state.index.commits.items c.self.inside.state.index.file_of_line.items c.self.inside.state.visible.entries c.self.inside.state.visible.files c.self.invariant.1) }

pub returns-in-Some : goal.returns-in-Some
returns-in-Some c =
    let state = c.self.inside.state in
    let own = all-kept state.commands.commands state.visible.table state.index.commits.items state.index.file_of_line.items state.visible.entries state.visible.files c.self.invariant.0.0.legal c.self.invariant.1
    c.args.file c.in-Some.part.now (ap (λ files. part_of files c.args.file) (sym c.as_slice.ensures) ∙ sym c.part_of.ensures ∙ ap option_copied c.in-Some.is) in
    IfOk-weaker c.all.result _ _ (λ rows e. e ∙ own ∙ ap (λ (v : EngineValue). map as_row (file_dated c.args.file (kept_of v.history))) c.self.view_is) c.all.ensures

pub returns-in-None : goal.returns-in-None
returns-in-None c =
    let state = c.self.inside.state in
    c.new.ensures
    ∙ none-kept state.commands.commands state.visible.table state.index.commits.items state.index.file_of_line.items state.visible.entries state.visible.files c.self.invariant.0.0.legal c.self.invariant.1
    c.args.file (ap (λ files. part_of files c.args.file) (sym c.as_slice.ensures) ∙ sym c.part_of.ensures ∙ ap option_copied c.in-None.is)
    ∙ ap (λ (v : EngineValue). map as_row (file_dated c.args.file (kept_of v.history))) c.self.view_is
