use Rattle.std.proofs.Common.{[], ◌≡◌, Some, None, true, nat_eq, sym, ap, subst, ◌∙◌}
use Rattle.std.specs.Option.{option_map}
use Rattle.cov_base.specs.Rows.{Row, row_of}
use Rattle.cov_tree.specs.declared.dated.DatedEntry.{DatedEntry}
use Rattle.cov_tree.specs.Dated.{Dated, nodes_at}
use Rattle.cov_tree.specs.Entries.{rows_in}
use Rattle.cov_tree.specs.Installing.{IsPlaceOf}
use Rattle.cov_tree.proofs.Installing.{nodes_are}
use Rattle.cov_tree.proofs.Looking.{kind_nowhere, kind_there}
use Rattle.cov_tree.proofs.entries.Entries.kind_at.Goals as goal

pub returns-in-Some : goal.returns-in-Some
returns-in-Some c =
    let es = c.self.inside.entries.items in
    let e = c.index.result.now in
    let here = subst (λ xs. IsPlaceOf c.args.node xs (Some c.in-Some.index)) c.deref.ensures.value c.in-Some.ensures.place in
    c.kind_seen.ensures
    ∙ kind_there c.args.table.now c.args.choice c.args.at c.args.node es c.in-Some.index e c.self.invariant.0.1 here.0 c.index.ensures
    (subst (λ (x : DatedEntry). nat_eq x.node c.args.node ≡ true) (sym c.index.ensures) (here.1 e))
    ∙ ap (λ xs. option_map (λ (r : Row). r.kind) (row_of (rows_in c.args.table.now c.args.choice xs) c.args.node))
    (sym (nodes_are c.args.at (record { from = c.self.inside.from; entries = es; room = 0; noted = [] }) c.self.invariant.1))
    ∙ ap (λ (d : Dated). option_map (λ (r : Row). r.kind) (row_of (rows_in c.args.table.now c.args.choice (nodes_at c.args.at d)) c.args.node)) c.self.view_is

pub returns-in-None : goal.returns-in-None
returns-in-None c =
    let es = c.self.inside.entries.items in
    kind_nowhere c.args.table.now c.args.choice c.args.at c.args.node es c.self.invariant.0.1 (subst (λ xs. IsPlaceOf c.args.node xs None) c.deref.ensures.value c.in-None.ensures.place)
    ∙ ap (λ xs. option_map (λ (r : Row). r.kind) (row_of (rows_in c.args.table.now c.args.choice xs) c.args.node))
    (sym (nodes_are c.args.at (record { from = c.self.inside.from; entries = es; room = 0; noted = [] }) c.self.invariant.1))
    ∙ ap (λ (d : Dated). option_map (λ (r : Row). r.kind) (row_of (rows_in c.args.table.now c.args.choice (nodes_at c.args.at d)) c.args.node)) c.self.view_is
