use Rattle.std.proofs.Common.{◌≡◌, ◌∷◌, reverse, ap, ◌∙◌, subst, sym}
use Rattle.cov_dd.specs.Memos.{IsKey, IsDistinct, MemoValue}
use Rattle.cov_dd.proofs.Pairs.{put_fresh}
use Rattle.cov_dd.proofs.memo.Memo.put.Goals as goal

fresh : (c : goal.In-Ok) → IsKey (reverse c.self.inside.made.entries) c.args.pair → ⊥
fresh c k = c.requires.fresh (subst (λ (m : MemoValue). IsKey m.made c.args.pair) c.self.view_is k)

grown : (c : goal.In-Ok) → reverse c.insert.new.self.entries ≡ (c.args.pair, c.args.node) ∷ reverse c.self.inside.made.entries
grown c = put_fresh c.self.inside.made.entries c.insert.new.self.entries c.args.pair c.args.node (fresh c) c.in-Ok.ensures.entries

pub invariant_of-self : goal.invariant_of-self
invariant_of-self c = subst IsDistinct (sym (grown c)) (c.self.invariant, fresh c)

pub returns : goal.returns
returns c = grown c ∙ ap (λ (m : MemoValue). (c.args.pair, c.args.node) ∷ m.made) c.self.view_is
