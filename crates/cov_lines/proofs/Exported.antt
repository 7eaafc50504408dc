-- A file with all its variants, as it is found and told or refused.
use Rattle.std.proofs.Common.{◌≡◌, ◌∙◌, ap, sym, refl, ℕ, List, Result, Ok, Err}
use Rattle.std.specs.Prelude.{ok_or, if◌then◌else◌}
use Rattle.cov_cond.specs.Exporting.{IsExportFaultOf, exported}
use Rattle.cov_cond.specs.declared.fault.ExportFault.{ExportFault}
use Rattle.cov_cond.specs.declared.fault.ExportFault.TheVariants as faults
use Rattle.cov_edit.specs.Variant.{Variant}
use Rattle.cov_script.specs.declared.code.Code.TheVariants.{NotFile, NoSuchPath}
use Rattle.cov_script.specs.Replies.{text_line}
use Rattle.cov_view.specs.Refusals.{is_dir}
use Rattle.cov_visible.specs.Reading.{IsFileAt}
use Rattle.cov_visible.specs.declared.reading.FileFault.{FileFault}
use Rattle.cov_visible.specs.declared.reading.FileFault.TheVariants as files
use Rattle.cov_codes.specs.Codes.{export_code}
use Rattle.cov_codes.specs.Stops.{export_stop, file_stop}
use Rattle.cov_lines.specs.Acting.{Stops}
use Rattle.cov_lines.specs.Finding.{Found, ◌>>=◌, by_code}
use Rattle.cov_lines.specs.Replies.{lines_reply}
use Rattle.cov_lines.specs.States.{State}
use Rattle.cov_lines.specs.Step.{Act, file_exported, file_in}

module _ (v : Variant) (path : List (List ℕ)) where
  abbrev on-node : ℕ → Found ℕ
  on-node node = if is_dir v.rows node then Err NotFile else Ok node

  -- the file at a path is found
  pub file-found : (node : ℕ) → IsFileAt v path (Ok node) → file_in v path ≡ Ok node
  file-found node h =
      ap (λ o. ok_or o NoSuchPath >>= on-node) h.0 ∙ ap (λ b. if b then Err NotFile else Ok node) h.1

  -- a path that leads to no file
  pub file-stops : (st : State) (fault : FileFault) → IsFileAt v path (Err fault) → Stops (file_in v path) st st (file_stop fault)
  file-stops st files.NoSuchPath h = record { is = ap (λ o. ok_or o NoSuchPath >>= on-node) h; same = refl; told = tt }
  file-stops st files.NotFile h = record {
    is = ap (λ o. ok_or o NoSuchPath >>= on-node) h.1 ∙ ap (λ b. if b then Err NotFile else Ok h.0) h.2;
    same = refl;
    told = tt;
  }

module _ (st : State) (file : ℕ) where
  abbrev on-exported : Result (List (List ℕ)) ExportFault → Act
  on-exported r = by_code export_code r >>= (λ ls. Ok (st, lines_reply text_line ls))

  -- the lines of its conditional text are told
  pub exported-told : (ls : List (List ℕ)) (text : List ℕ) → exported st.history file ≡ Ok ls → text ≡ lines_reply text_line ls → file_exported st file ≡ Ok (st, text)
  unfolding file_exported
  exported-told ls text h is = ap on-exported h ∙ ap (λ t. Ok (st, t)) (sym is)

  -- a file whose conditional text can't be told
  pub export-stops : (fault : ExportFault) → IsExportFaultOf (exported st.history file) fault → Stops (file_exported st file) st st (export_stop fault)
  unfolding file_exported
  export-stops (faults.TooLong line) h = record { is = ap on-exported h; same = refl; told = tt }
  export-stops faults.Memory h = refl
