use Rattle.std.proofs.Common.{◌∷◌, ◌++◌, [], ap, sym, ◌∙◌}
use Rattle.std.proofs.lemmas.List.{map-append}
use Rattle.indexmap.specs.IndexSet.{insert_key}
use Rattle.cov_view.specs.declared.row.ViewRow.{ViewRow}
use Rattle.cov_view.proofs.Keys.{keys_of, same_key, agrees, key_added}
use Rattle.cov_view.proofs.node_index.NodeIndex.note.Goals as goal

pub returns-clause-ok : goal.returns-clause-ok
returns-clause-ok c = λ rows r own dir name fresh h. (
  c.in-Ok.ensures.keys
      ∙ ap (λ ks. insert_key same_key ks c.args.node.now) (c.reserve.ensures.keys ∙ h.0)
      ∙ key_added same_key agrees c.args.node.now rows fresh
      ∙ ap (λ n. keys_of rows ++ n ∷ []) (sym own)
      ∙ sym (map-append (λ (q : ViewRow). q.node) rows (r ∷ [])),
  c.in_ok-note.ensures.ok rows r own dir name fresh h.1,
)
