-- Why a line isn't done: by the code of each fault, but where memory is wanting.
use Rattle.cov_alt.specs.declared.fault.AltFault.{AltFault}
use Rattle.cov_alt.specs.declared.fault.AltFault.TheVariants as sides
use Rattle.cov_base.specs.declared.error.BadName.{BadName}
use Rattle.cov_base.specs.declared.error.MemoryOr.{MemoryOr}
use Rattle.cov_base.specs.declared.error.MemoryOr.TheVariants as memory_or
use Rattle.cov_cond_text.specs.declared.fault.CondFault.{CondFault}
use Rattle.cov_cond_text.specs.declared.fault.CondFault.TheVariants as conds
use Rattle.cov_cond.specs.declared.fault.ExportFault.{ExportFault}
use Rattle.cov_cond.specs.declared.fault.ExportFault.TheVariants as exports
use Rattle.cov_cond.specs.declared.fault.ImportFault.{ImportFault}
use Rattle.cov_cond.specs.declared.fault.ImportFault.TheVariants as imports
use Rattle.cov_expr.specs.declared.binding.BindFault.{BindFault}
use Rattle.cov_expr.specs.declared.binding.BindFault.TheVariants as binds
use Rattle.cov_expr.specs.declared.naming.NameFault.{NameFault}
use Rattle.cov_expr.specs.declared.naming.NameFault.TheVariants as names
use Rattle.cov_hist.specs.declared.fault.PastFault.{PastFault}
use Rattle.cov_script.specs.declared.code.Code.TheVariants as codes
use Rattle.cov_script.specs.declared.line.LineSyntax.{LineSyntax}
use Rattle.cov_script.specs.declared.line.LineSyntax.TheVariants as places
use Rattle.cov_view.specs.declared.fault.EditFault.{EditFault}
use Rattle.cov_view.specs.declared.fault.EditFault.TheVariants as faults
use Rattle.cov_view.specs.declared.fault.ListFault.{ListFault}
use Rattle.cov_view.specs.declared.fault.ListFault.TheVariants as lists
use Rattle.cov_view.specs.declared.fault.ReadFaultOfView.{ReadFaultOfView}
use Rattle.cov_view.specs.declared.fault.ReadFaultOfView.TheVariants as reads
use Rattle.cov_engine.specs.declared.engine.NoSuchLine.{NoSuchLine}
use Rattle.cov_visible.specs.declared.reading.FileFault.{FileFault}
use Rattle.cov_visible.specs.declared.reading.FileFault.TheVariants as files
use Rattle.cov_history.specs.declared.refusal.Refusal.{Refusal}
use Rattle.cov_history.specs.declared.refusal.Refusal.TheVariants as refusals
use Rattle.cov_rules.specs.declared.completing.CompleteFault.{CompleteFault}
use Rattle.cov_rules.specs.declared.completing.CompleteFault.TheVariants as completions
use Rattle.cov_session.specs.declared.fault.SessionFault.{SessionFault}
use Rattle.cov_session.specs.declared.fault.SessionFault.TheVariants as sessions
use Rattle.cov_session.specs.declared.fault.NoSession.{NoSession}
use Rattle.cov_codes.specs.Codes.{alt_code, bind_code, cond_code, edit_code, export_code, import_code, name_code, past_code, refusal_code, session_code, syntax_code}
use Rattle.cov_codes.specs.declared.stop.Stop.{Stop}
use Rattle.cov_codes.specs.declared.stop.Stop.TheVariants as stops

-- a line without a form
abbrev pub syntax_stop : LineSyntax → Stop
syntax_stop places.Memory = stops.Memory
syntax_stop fault = stops.Refused (syntax_code fault)

-- an option's name that is spelt badly
abbrev pub bad_name_stop : MemoryOr BadName → Stop
bad_name_stop memory_or.Memory = stops.Memory
bad_name_stop (memory_or.Refused bad) = stops.Refused codes.BadName

-- a name that no option has
abbrev pub name_stop : NameFault → Stop
name_stop names.Memory = stops.Memory
name_stop fault = stops.Refused (name_code fault)

-- bindings that are no partial choice
abbrev pub bind_stop : BindFault → Stop
bind_stop binds.Memory = stops.Memory
bind_stop fault = stops.Refused (bind_code fault)

-- a partial choice that the rules don't complete
abbrev pub complete_stop : CompleteFault → Stop
complete_stop completions.Memory = stops.Memory
complete_stop (completions.Invalid rule) = stops.Refused (codes.Invalid rule)
complete_stop (completions.Incomplete option) = stops.Refused (codes.Incomplete option)

-- a file that can't be read
abbrev pub read_stop : ReadFaultOfView → Stop
read_stop reads.Memory = stops.Memory
read_stop reads.NoSuchNode = stops.Refused codes.NoSuchPath
read_stop reads.NotFile = stops.Refused codes.NotFile

-- a directory that can't be listed
abbrev pub list_stop : ListFault → Stop
list_stop lists.Memory = stops.Memory
list_stop lists.NoSuchNode = stops.Refused codes.NoSuchPath
list_stop lists.NotDirectory = stops.Refused codes.NotDirectory

-- an edit that a session refuses
abbrev pub edit_stop : EditFault → Stop
edit_stop faults.Memory = stops.Memory
edit_stop fault = stops.Refused (edit_code fault)

-- a session's refusal
abbrev pub session_stop : SessionFault → Stop
session_stop sessions.Memory = stops.Memory
session_stop (sessions.Edit fault) = edit_stop fault
session_stop fault = stops.Refused (session_code fault)

-- a name that no open session has
abbrev pub no_session_stop : NoSession → Stop
no_session_stop none = stops.Refused codes.NoSession

-- a commit of a session that isn't open
abbrev pub command_stop : MemoryOr NoSession → Stop
command_stop memory_or.Memory = stops.Memory
command_stop (memory_or.Refused none) = stops.Refused codes.NoSession

-- a history's refusal of a command
abbrev pub refusal_stop : Refusal → Stop
refusal_stop refusals.Memory = stops.Memory
refusal_stop refusal = stops.Refused (refusal_code refusal)

-- a path that leads to no file
abbrev pub file_stop : FileFault → Stop
file_stop files.NoSuchPath = stops.Refused codes.NoSuchPath
file_stop files.NotFile = stops.Refused codes.NotFile

-- a line that the history doesn't have
abbrev pub no_line_stop : MemoryOr NoSuchLine → Stop
no_line_stop memory_or.Memory = stops.Memory
no_line_stop (memory_or.Refused none) = stops.Refused codes.NoSuchLine

-- two sides that can't be told
abbrev pub alt_stop : AltFault → Stop
alt_stop sides.Memory = stops.Memory
alt_stop fault = stops.Refused (alt_code fault)

-- bindings that are no choice at a position
abbrev pub past_stop : PastFault → Stop
past_stop fault = stops.Refused (past_code fault)

-- a file whose conditional text can't be told
abbrev pub export_stop : ExportFault → Stop
export_stop exports.Memory = stops.Memory
export_stop fault = stops.Refused (export_code fault)

-- a conditional text that isn't imported
abbrev pub import_stop : ImportFault → Stop
import_stop imports.Memory = stops.Memory
import_stop (imports.Edit fault) = edit_stop fault
import_stop fault = stops.Refused (import_code fault)

-- lines that are no conditional text
abbrev pub cond_stop : CondFault → Stop
cond_stop conds.Memory = stops.Memory
cond_stop fault = stops.Refused (cond_code fault)
