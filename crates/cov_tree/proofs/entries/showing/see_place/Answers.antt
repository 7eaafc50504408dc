use Rattle.std.proofs.Common.{◌∙◌, ◌++◌, append-nil, ap, sym}
use Rattle.std.proofs.lemmas.Result.{on_ok_weaker}
use Rattle.cov_tree.proofs.Shown.{place_hidden, place_shown}
use Rattle.cov_tree.proofs.entries.showing.see_place.Goals as goal

pub returns-then-branch-clause-rows : goal.returns-then-branch-clause-rows
returns-then-branch-clause-rows c =
    on_ok_weaker c.see_row.result
    (λ is. λ f agrees.
    is ∙ ap (λ rs. c.args.tree.now ++ rs) (sym (place_shown f c.args.node c.args.kind c.args.place.now (c.in_ok-evaluate.ensures.value f agrees ∙ c.if-branch.true))))
    c.see_row.ensures

pub returns-clause-rows : goal.returns-clause-rows
returns-clause-rows c = λ f agrees.
    sym (append-nil c.args.tree.now)
    ∙ ap (λ rs. c.args.tree.now ++ rs) (sym (place_hidden f c.args.node c.args.kind c.args.place.now (c.in_ok-evaluate.ensures.value f agrees ∙ c.if-branch.false)))
