use Rattle.std.proofs.Common.{◌≡◌, ◌-◌, true, length, take, Ok, sym, ap, subst, ◌∙◌}
use Rattle.std.proofs.lemmas.Result.{IfErr-weaker}
use Rattle.cov_view.specs.References.{is_made_node}
use Rattle.cov_cond.proofs.Placing.{last-behind, made_nowhere, made_refused, made_taken, ok-with}
use Rattle.cov_cond.proofs.importing.making.made_in.Goals as goal

pub returns-in-Some-clause-edit : goal.returns-in-Some-clause-edit
returns-in-Some-clause-edit c =
    let path = c.as_slice.result.now in
    let parts = sym c.as_slice.ensures ∙ last-behind c.name-item.result c.name-item.result path c.name-item.is c.in-len1-up.len_at_least in
    ok-with c.made_below.result _ _ _
    (λ edit is taken ns table v shows.
    made_taken ns v c.args.path.now (take (length path - 1) path) c.name-item.result parts c.requires.named c.in-Some.parent (c.in-Some.ensures.shown ns table v shows)
    (subst (λ made. is_made_node ns.nodes made c.in-Some.parent ≡ true) c.requires.nodes (c.in-Some.ensures.made ns table v shows)) (taken ns table v shows)
    ∙ ap Ok (sym is))
    c.made_below.ensures.edit c.made_below.ensures.taken

pub returns-in-Some-clause-fault : goal.returns-in-Some-clause-fault
returns-in-Some-clause-fault c =
    let path = c.as_slice.result.now in
    let parts = sym c.as_slice.ensures ∙ last-behind c.name-item.result c.name-item.result path c.name-item.is c.in-len1-up.len_at_least in
    IfErr-weaker c.made_below.result _ _
    (λ fault refused ns table v shows.
    made_refused ns v c.args.path.now (take (length path - 1) path) c.name-item.result parts c.requires.named c.in-Some.parent (c.in-Some.ensures.shown ns table v shows)
    (subst (λ made. is_made_node ns.nodes made c.in-Some.parent ≡ true) c.requires.nodes (c.in-Some.ensures.made ns table v shows)) fault (refused ns table v shows))
    c.made_below.ensures.fault

pub returns-in-None-clause-fault : goal.returns-in-None-clause-fault
returns-in-None-clause-fault c ns table v shows =
    let path = c.as_slice.result.now in
    made_nowhere ns v c.args.path.now (take (length path - 1) path) c.name-item.result
    (sym c.as_slice.ensures ∙ last-behind c.name-item.result c.name-item.result path c.name-item.is c.in-len1-up.len_at_least)
    c.requires.named (sym (c.in-None.ensures.shown ns table v shows))
