use Rattle.std.proofs.Common.{◌≡◌, ◌++◌, true, nat_eq, append-nil, sym, ap, subst, ◌∙◌}
use Rattle.std.proofs.lemmas.Result.{on_ok_weaker}
use Rattle.cov_tree.specs.declared.dated.DatedEntry.{DatedEntry}
use Rattle.cov_tree.specs.Entries.{rows_of}
use Rattle.cov_tree.proofs.Installing.{no_rows_there, rows_there}
use Rattle.cov_tree.proofs.entries.add_rows_of.Goals as goal

pub returns-in-Some : goal.returns-in-Some
returns-in-Some c =
    let table = c.args.table.now in
    let entry = c.index-entries-place.result in
    let here = c.in-Some.ensures.place in
    on_ok_weaker c.add_rows.result
    (λ is.
    is
    ∙ ap (λ rows. c.args.rows.now ++ rows)
    (ap (rows_of table c.args.choice entry.node entry.kind) c.places_at.ensures
    ∙ sym
    (rows_there table c.args.choice c.args.at c.args.node c.args.entries.now c.in-Some.place entry c.requires.once here.0 c.index-entries-place.is
    (subst (λ (e : DatedEntry). nat_eq e.node c.args.node ≡ true) (sym c.index-entries-place.is) (here.1 entry)))))
    c.add_rows.ensures

pub returns-in-None : goal.returns-in-None
returns-in-None c =
    sym (append-nil c.args.rows.now)
    ∙ ap (λ rows. c.args.rows.now ++ rows) (sym (no_rows_there c.args.table.now c.args.choice c.args.at c.args.node c.args.entries.now c.requires.once c.in-None.ensures.place))
