use Rattle.std.proofs.Common.{◌≡◌, ◌∙◌, ◌++◌, sym, ap, subst, List, [], ◌∷◌, OnOk, cond, append-nil, unwrap_or, position, nat_eq, Some, None, arith}
use Rattle.std.specs.Map.{keys_of}
use Rattle.cov_base.proofs.CallerLemmas.{none-placed}
use Rattle.cov_base.specs.declared.file_row.FileRow.{FileRow}
use Rattle.cov_dd.specs.Diagrams.{value_in}
use Rattle.cov_dd.proofs.CallerLemmas.{value-constant}
use Rattle.cov_file.specs.Dated.{vis_at}
use Rattle.cov_file.specs.Kept.{row_in, text_in}
use Rattle.cov_file.proofs.Finding.{list_found, list_missing}
use Rattle.cov_file.proofs.Shown.{row_one}
use Rattle.cov_file.proofs.lines.add_visible.Goals as goal

pub returns-in-Some-clause-rows : goal.returns-in-Some-clause-rows
returns-in-Some-clause-rows c =
    let keys = keys_of c.args.texts.now.entries in
    let found : position (nat_eq c.args.line) keys ≡ Some c.in-Some.index = sym c.in-Some.ensures.index in
    let text : c.in-Some.text.now ≡ text_in c.args.texts.now.entries c.args.line = ap (λ o. unwrap_or o []) c.in-Some.ensures.text in
    let shown =
    c.look.ensures.value
    ∙ ap (λ v. value_in c.args.sight.now.table.now v c.args.sight.now.choice)
    (c.at.ensures ∙ ap (λ cs. vis_at cs c.args.sight.now.at) (list_found c.args.line keys c.args.changes.now.lists c.in-Some.index found)) in
    subst (λ (piece : List FileRow). OnOk c.add_shown.result (c.add_shown.new.rows ≡ c.args.rows.now ++ piece))
    ((λ j. cond (shown j) (record { line = c.args.line; text = text j } ∷ []) [])
    ∙ sym (row_one c.args.sight.now.table.now c.args.sight.now.choice c.args.sight.now.at c.args.texts.now.entries c.args.changes.now.lists c.args.line)) c.add_shown.ensures

pub returns-in-None-clause-rows : goal.returns-in-None-clause-rows
returns-in-None-clause-rows c =
    let keys = keys_of c.args.texts.now.entries in
    let absent : position (nat_eq c.args.line) keys ≡ None = sym c.in-None.ensures.index in
    let hidden =
    ap (λ cs. value_in c.args.sight.now.table.now (vis_at cs c.args.sight.now.at) c.args.sight.now.choice) (list_missing c.args.line keys c.args.changes.now.lists (none-placed (nat_eq c.args.line) keys absent))
    ∙ value-constant c.args.sight.now.table.now 0 c.args.sight.now.choice (omega arith) in
    sym (append-nil c.args.rows.now)
    ∙ ap (λ b. c.args.rows.now ++ cond b (row_in c.args.texts.now.entries c.args.line ∷ []) []) (sym hidden)
    ∙ ap (λ rs. c.args.rows.now ++ rs) (sym (row_one c.args.sight.now.table.now c.args.sight.now.choice c.args.sight.now.at c.args.texts.now.entries c.args.changes.now.lists c.args.line))
