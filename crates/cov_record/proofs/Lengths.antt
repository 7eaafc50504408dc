-- How long records are.
use Rattle.std.proofs.Common.{◌≡◌, ℕ, ◌+◌, ◌*◌, ◌<◌, ◌≤◌, ◌^◌, Bool, true, false, ◌&&◌, not, nat_le, List, [], ◌∷◌, ◌++◌, length, map, Option, Some, None, refl, sym, ap, subst, ◌∙◌, arith}
use Rattle.std.specs.List.{list_all, list_any, AllByRecursion}
use Rattle.std.proofs.lemmas.Bool.{and_parts, leb-true}
use Rattle.std.proofs.lemmas.List.{length-append, length-map}
use Rattle.std.proofs.lemmas.List.Folds.{list_all-append}
use Rattle.std.proofs.lemmas.List.Sums.{sum_by-cons}
use Rattle.std.specs.Str.{bytes_eq, is_utf8}
use Rattle.cov_base.specs.Spelling.{is_word, reserved_words, is_outside_names, dot_names, is_name, is_option_name}
use Rattle.cov_base.specs.declared.limits.TheConstants.{LIMITS, MOST_NAME_BYTES, MOST_OPTION_NAME_BYTES}
use Rattle.cov_base.specs.declared.number.NodeRef.{NodeRef}
use Rattle.cov_base.specs.declared.number.NodeRef.TheVariants as nodes
use Rattle.cov_base.specs.declared.number.LineRef.{LineRef}
use Rattle.cov_base.specs.declared.number.LineRef.TheVariants as lines
use Rattle.cov_expr.specs.Formula.{Formula, False, True, On, Not, And, Or, part_count}
use Rattle.cov_edit.specs.EditFits.{fits_edit}
use Rattle.cov_edit.specs.Fits.{fits_expr, fits_with_side}
use Rattle.cov_edit.specs.History.{edit_bytes, text_bytes, command_bytes}
use Rattle.cov_edit.specs.declared.edit.Edit.{Edit}
use Rattle.cov_edit.specs.declared.edit.Edit.TheVariants as edits
use Rattle.cov_edit.specs.declared.command.Command.{Command}
use Rattle.cov_edit.specs.declared.command.Command.TheVariants as commands
use Rattle.cov_edit.specs.History.{edits_in}
use Rattle.cov_edit.specs.Sides.{unsided}
use Rattle.cov_edit.proofs.CallerLemmas.{bytes-append, edits-fit, unsided-length}
use Rattle.cov_edit.specs.declared.sided.Sided.{Sided}
use Rattle.cov_record.specs.FitsRecord.{FitsRecord}
use Rattle.cov_record.specs.Payload.{bit, run_of, choice_spelling, expression_spelling, node_spelling, line_spelling, name_spelling, text_spelling, edit_spelling, all_edit_spelling, edits_spelling, run_spelling, sided_spelling, payload}
use Rattle.cov_record.specs.SideRuns.{SideRun, under, laid_out, side_runs, has_sides, AreRuns}
use Rattle.cov_record.proofs.Forests.{fits_both}
use Rattle.cov_record.proofs.Grouping.{under-unsided, laid-length, laid_out-runs, runs-are}
use Rattle.cov_record.proofs.Sides.{run-unsided, side-fits}

part-length : (e : Formula ℕ) → length (expression_spelling e) ≤ 2 * part_count e
part-length False = omega arith
part-length True = omega arith
part-length (On o) = omega arith
part-length (Not e) = omega (arith, part-length e)
part-length (And a b) = omega (arith, length-append (expression_spelling a) (expression_spelling b), part-length a, part-length b)
part-length (Or a b) = omega (arith, length-append (expression_spelling a) (expression_spelling b), part-length a, part-length b)

expression-length : (e : Formula ℕ) → fits_expr e ≡ true → length (expression_spelling e) ≤ 512
expression-length e h = omega (arith, part-length e, (fits_both e h).0)

node-length : (x : NodeRef) → length (node_spelling x) ≡ 5
node-length (nodes.Old x) = refl
node-length (nodes.New i) = refl

line-length : (x : LineRef) → length (line_spelling x) ≡ 5
line-length (lines.Old x) = refl
line-length (lines.New i) = refl

name-length : (name : List ℕ) → is_name name ≡ true → length (name_spelling name) ≤ 256
name-length name h =
    let size = and_parts (nat_le 1 (length name) && nat_le (length name) MOST_NAME_BYTES) (is_utf8 name && (not (list_any is_outside_names name) && not (list_any (bytes_eq name) dot_names))) h in
    omega (arith, leb-true (length name) MOST_NAME_BYTES (and_parts (nat_le 1 (length name)) (nat_le (length name) MOST_NAME_BYTES) size.0).1)

option-length : (name : List ℕ) → is_option_name name ≡ true → length (name_spelling name) ≤ 65
option-length name h =
    let own = and_parts (is_word name) (nat_le (length name) MOST_OPTION_NAME_BYTES && not (list_any (bytes_eq name) reserved_words)) h in
    omega (arith, leb-true (length name) MOST_OPTION_NAME_BYTES (and_parts (nat_le (length name) MOST_OPTION_NAME_BYTES) (not (list_any (bytes_eq name) reserved_words)) own.1).0)

-- beside the text that it inserts, an edit has no more bytes than one that makes a node with the longest name
edit-length : (e : Edit) → fits_edit e ≡ true → length (edit_spelling e) ≤ 263 + edit_bytes e
edit-length (edits.New kind parent name) h = omega (arith, length-append (node_spelling parent) (name_spelling name), node-length parent, name-length name h)
edit-length (edits.Insert file after text) h =
    omega (arith, length-append (node_spelling file) (line_spelling after ++ text_spelling text), node-length file, length-append (line_spelling after) (text_spelling text), line-length after)
edit-length (edits.Delete file line) h = omega (arith, length-append (node_spelling file) (line_spelling line), node-length file, line-length line)
edit-length (edits.Rename node name) h = omega (arith, length-append (node_spelling node) (name_spelling name), node-length node, name-length name h)
edit-length (edits.Move node parent) h = omega (arith, length-append (node_spelling node) (node_spelling parent), node-length node, node-length parent)
edit-length (edits.Remove node) h = omega (arith, node-length node)

edits-length : (es : List Edit) → list_all fits_edit es ≡ true → length (all_edit_spelling es) ≤ 263 * length es + text_bytes es
edits-length [] h = omega arith
edits-length (e ∷ es) h =
    let own = and_parts (fits_edit e) (list_all fits_edit es) h in
    omega (arith, length-append (edit_spelling e) (all_edit_spelling es), edit-length e own.0, edits-length es own.1, sum_by-cons edit_bytes e es)

-- so has a run, with its side and its number, where it has an edit
run-length : (run : SideRun) → 0 < length run.edits → list_all fits_with_side (under run.side run.edits) ≡ true → length (run_spelling run) ≤ 779 * length run.edits + text_bytes run.edits
run-length run some h =
    let spelt = subst (λ es. list_all fits_edit es ≡ true) (under-unsided run.side run.edits) (edits-fit (under run.side run.edits) h) in
    omega (
      arith,
      some,
      length-append (expression_spelling run.side) (edits_spelling run.edits),
      expression-length run.side (side-fits run.side run.edits some h),
      edits-length run.edits spelt,
    )

runs-length : (before : Option (Formula ℕ)) (runs : List SideRun) → AreRuns before runs → list_all fits_with_side (laid_out runs) ≡ true
    → length (run_of run_spelling runs) ≤ 779 * length (laid_out runs) + text_bytes (unsided (laid_out runs))
runs-length before [] are h = omega arith
runs-length before (run ∷ runs) are h =
    let own = under run.side run.edits in
    let both = and_parts (list_all fits_with_side own) (list_all fits_with_side (laid_out runs)) (sym (list_all-append fits_with_side own (laid_out runs)) ∙ h) in
    omega (
      arith,
      length-append (run_spelling run) (run_of run_spelling runs),
      run-length run are.0 both.0,
      runs-length (Some run.side) runs are.2 both.1,
      laid-length run runs,
      ap text_bytes (run-unsided run runs),
      bytes-append run.edits (unsided (laid_out runs)),
    )

sided-length : (t : Bool) (ss : List Sided) → list_all fits_with_side ss ≡ true → length (sided_spelling t ss) ≤ 4 + 779 * length ss + text_bytes (unsided ss)
sided-length true ss h =
    let same = laid_out-runs ss in
    omega (
      arith,
      subst (λ ts. length (run_of run_spelling (side_runs ss)) ≤ 779 * length ts + text_bytes (unsided ts)) same
          (runs-length None (side_runs ss) (runs-are ss) (subst (λ ts. list_all fits_with_side ts ≡ true) (sym same) h)),
    )
sided-length false ss h = omega (arith, edits-length (unsided ss) (edits-fit ss h), unsided-length ss)

-- a record has no more bytes than its text, 779 for each edit, and 656 besides
pub payload-length : (c : Command) → FitsRecord c → length (payload c) ≤ 656 + 779 * length (edits_in c) + command_bytes c
payload-length (commands.Option name) h = omega (arith, option-length name h.0)
payload-length (commands.Constraint e) h = omega (arith, expression-length e h.0)
payload-length (commands.Prefer e) h = omega (arith, expression-length e h.0)
payload-length (commands.Default o on) h = omega arith
payload-length (commands.Commit base choice ambition ss) h =
    let own = and_parts (fits_expr ambition) (list_all fits_with_side ss) h.0 in
    omega (
      arith,
      h.1.1,
      length-append (choice_spelling choice) (expression_spelling ambition ++ sided_spelling (has_sides ss) ss),
      length-map choice bit,
      length-append (expression_spelling ambition) (sided_spelling (has_sides ss) ss),
      expression-length ambition own.0,
      sided-length (has_sides ss) ss own.1,
    )
payload-length commands.Upgrade h = omega arith

-- a command has no more edits and bytes of text than a commit may have
pub record IsWithinLimits (c : Command) : Type 0 where
  pub edits : length (edits_in c) ≤ LIMITS.edits
  pub bytes : command_bytes c ≤ LIMITS.commit_bytes

pub payload-short : (c : Command) → FitsRecord c → IsWithinLimits c → length (payload c) < 2 ^ 25
payload-short c h within = omega (arith, payload-length c h, within.edits, within.bytes)

pub payloads-short : (history : List Command) → AllByRecursion FitsRecord history → AllByRecursion IsWithinLimits history
    → AllByRecursion (λ p. length p < 2 ^ 27) (map payload history)
payloads-short [] h within = tt
payloads-short (c ∷ history) h within = (omega (arith, payload-short c h.0 within.0), payloads-short history h.1 within.1)
