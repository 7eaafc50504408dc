-- Faults that come from the engine.
use Rattle.cov_visible.specs.declared.reading.FileFault.{FileFault}
use Rattle.cov_visible.specs.declared.reading.FileFault.TheVariants as file_faults
use Rattle.cov_alt.specs.declared.fault.AltFault.{AltFault}
use Rattle.cov_alt.specs.declared.fault.AltFault.TheVariants as faults

-- the fault where a path leads to no file
abbrev pub by_file : FileFault → AltFault
by_file file_faults.NoSuchPath = faults.NoSuchPath
by_file file_faults.NotFile = faults.NotFile
