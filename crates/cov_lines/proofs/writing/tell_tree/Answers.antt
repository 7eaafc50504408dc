use Rattle.std.proofs.Common.{not, refl, arith}
use Rattle.std.proofs.lemmas.List.Filters.{length-filter_both}
use Rattle.cov_view.specs.References.{is_dir_kind}
use Rattle.cov_view.specs.declared.tree.TreeRow.{TreeRow}
use Rattle.cov_lines.proofs.writing.tell_tree.Goals as goal

pub overflow_cast-dirs : goal.overflow_cast-dirs
overflow_cast-dirs c =
    let both = length-filter_both (λ (e : TreeRow). is_dir_kind e.kind) (λ (e : TreeRow). not (is_dir_kind e.kind)) (λ e. refl) c.args.rows.now in
    omega (arith, both, c.requires, c.dirs_in-dirs.ensures)

pub overflow_cast-files : goal.overflow_cast-files
overflow_cast-files c =
    let both = length-filter_both (λ (e : TreeRow). is_dir_kind e.kind) (λ (e : TreeRow). not (is_dir_kind e.kind)) (λ e. refl) c.args.rows.now in
    omega (arith, both, c.requires, c.files_in-files.ensures)
