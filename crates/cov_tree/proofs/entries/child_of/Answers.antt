use Rattle.std.proofs.Common.{true, false, sym, ap, subst, ◌∙◌}
use Rattle.cov_tree.specs.declared.dated.DatedEntry.{DatedEntry}
use Rattle.cov_tree.specs.Dated.{entry_at}
use Rattle.cov_tree.specs.Installing.{IsPlaceOf}
use Rattle.cov_tree.specs.Looking.{stands_in}
use Rattle.cov_tree.proofs.Searching.{one_absent, one_there}
use Rattle.cov_tree.proofs.entries.child_of.Goals as goal

pub returns-in_default : goal.returns-in_default
returns-in_default c =
    one_absent (λ (e : DatedEntry). stands_in c.args.table.now c.args.choice c.args.dir c.args.name.now (entry_at c.args.at e).places) c.args.node c.args.entries.now
    (subst (IsPlaceOf c.args.node c.args.entries.now) c.in_default.is c.place_of.ensures.place)

pub returns-then-stands_in : goal.returns-then-stands_in
returns-then-stands_in c =
    one_there (λ (e : DatedEntry). stands_in c.args.table.now c.args.choice c.args.dir c.args.name.now (entry_at c.args.at e).places) c.args.node c.args.entries.now c.in-Some.place c.index-entries-place.result
    true c.requires.once c.in-Some.ensures.place c.index-entries-place.is
    (ap (stands_in c.args.table.now c.args.choice c.args.dir c.args.name.now) (sym c.places_at.ensures) ∙ sym c.stands_in.ensures ∙ c.if-stands_in.true)

pub returns : goal.returns
returns c =
    one_there (λ (e : DatedEntry). stands_in c.args.table.now c.args.choice c.args.dir c.args.name.now (entry_at c.args.at e).places) c.args.node c.args.entries.now c.in-Some.place c.index-entries-place.result
    false c.requires.once c.in-Some.ensures.place c.index-entries-place.is
    (ap (stands_in c.args.table.now c.args.choice c.args.dir c.args.name.now) (sym c.places_at.ensures) ∙ sym c.stands_in.ensures ∙ c.if-stands_in.false)
