use Rattle.std.proofs.Common.{◌≡◌, Some, None, false, map, true, nat_eq, sym, subst}
use Rattle.cov_base.specs.Rows.{has_node}
use Rattle.cov_tree.specs.declared.dated.DatedEntry.{DatedEntry}
use Rattle.cov_tree.specs.Dated.{Dated, newest_entry}
use Rattle.cov_tree.specs.Entries.{nodes_of}
use Rattle.cov_tree.specs.Installing.{IsPlaceOf}
use Rattle.cov_tree.specs.Planning.{IsFoundAs}
use Rattle.cov_tree.proofs.Installing.{found_as}
use Rattle.cov_tree.proofs.entries.Entries.newest.Goals as goal

pub returns-in_ok-newest-in-Some : goal.returns-in_ok-newest-in-Some
returns-in_ok-newest-in-Some c =
    let es = c.self.inside.entries.items in
    let e = c.index.result.now in
    let here = subst (λ xs. IsPlaceOf c.args.node xs (Some c.in-Some.at)) c.deref.ensures.value c.in-Some.ensures.place in
    subst (λ (d : Dated). IsFoundAs c.args.node (Some c.in_ok-newest-in-Some.field-0) (map newest_entry d.entries)) c.self.view_is
    (subst (λ x. IsFoundAs c.args.node (Some x) (map newest_entry es)) (sym c.in_ok-newest-in-Some.ensures)
    (found_as c.args.node es c.in-Some.at e c.self.invariant.0 here.0 c.index.ensures (subst (λ (x : DatedEntry). nat_eq x.node c.args.node ≡ true) (sym c.index.ensures) (here.1 e))))

pub returns-in-None : goal.returns-in-None
returns-in-None c =
    subst (λ (d : Dated). has_node c.args.node (nodes_of (map newest_entry d.entries)) ≡ false) c.self.view_is
    (subst (λ xs. IsPlaceOf c.args.node xs None) c.deref.ensures.value c.in-None.ensures.place)
