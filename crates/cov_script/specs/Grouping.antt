-- The groups of lines.
use Rattle.cov_script.specs.declared.line.Line.{Line}
use Rattle.cov_script.specs.declared.line.Line.TheVariants as lines
use Rattle.cov_script.specs.declared.grouped.AnalysisLine.TheVariants as analyses
use Rattle.cov_script.specs.declared.grouped.Declaration.TheVariants as declarations
use Rattle.cov_script.specs.declared.grouped.EditLine.TheVariants as edits
use Rattle.cov_script.specs.declared.grouped.GroupedLine.{GroupedLine}
use Rattle.cov_script.specs.declared.grouped.GroupedLine.TheVariants as groups
use Rattle.cov_script.specs.declared.grouped.PastLine.TheVariants as pasts
use Rattle.cov_script.specs.declared.grouped.Question.TheVariants as questions
use Rattle.cov_script.specs.declared.grouped.SessionLine.TheVariants as sessions
use Rattle.cov_script.specs.declared.grouped.TreeLine.TheVariants as trees

-- what a line says, by its group
abbrev pub grouped : Line → GroupedLine
grouped lines.Nothing = groups.Silent
grouped (lines.Option token) = groups.Declaration (declarations.Option token)
grouped (lines.Constraint expr) = groups.Declaration (declarations.Constraint expr)
grouped (lines.Prefer expr) = groups.Declaration (declarations.Prefer expr)
grouped (lines.Default token on) = groups.Declaration (declarations.Default token on)
grouped (lines.Complete choice) = groups.Question (questions.Complete choice)
grouped (lines.OpenSession name choice ambition) = groups.Session (sessions.Open name choice ambition)
grouped (lines.Side name side) = groups.Session (sessions.Side name side)
grouped (lines.MakeDir name path) = groups.Edit name (edits.MakeDir path)
grouped (lines.MakeFile name path) = groups.Edit name (edits.MakeFile path)
grouped (lines.Rename name path to) = groups.Edit name (edits.Rename path to)
grouped (lines.Move name path target) = groups.Edit name (edits.Move path target)
grouped (lines.Remove name path) = groups.Edit name (edits.Remove path)
grouped (lines.Insert name path line text) = groups.Edit name (edits.Insert path line text)
grouped (lines.Delete name path line) = groups.Edit name (edits.Delete path line)
grouped (lines.Replace name path line text) = groups.Edit name (edits.Replace path line text)
grouped (lines.Show name path) = groups.Question (questions.Show name path)
grouped (lines.List name path) = groups.Question (questions.List name path)
grouped (lines.Refresh name) = groups.Session (sessions.Refresh name)
grouped (lines.Commit name) = groups.Session (sessions.Commit name)
grouped (lines.Discard name) = groups.Session (sessions.Discard name)
grouped (lines.Cat choice path) = groups.Question (questions.Cat choice path)
grouped (lines.Checkout tree choice) = groups.Tree (trees.Checkout tree choice)
grouped (lines.Alt choice token path) = groups.Question (questions.Alt choice token path)
grouped (lines.Conditional choice path) = groups.Question (questions.Conditional choice path)
grouped (lines.Presence line) = groups.Question (questions.Presence line)
grouped lines.Upgrade = groups.Declaration declarations.Upgrade
grouped lines.Analyse = groups.Analysis analyses.Analyse
grouped (lines.Nearest choice) = groups.Analysis (analyses.Nearest choice)
grouped (lines.Log choice) = groups.Past (pasts.Log choice)
grouped (lines.Blame choice path) = groups.Past (pasts.Blame choice path)
grouped (lines.Past position choice path) = groups.Past (pasts.Past position choice path)
grouped (lines.PastOut tree position choice) = groups.Tree (trees.PastOut tree position choice)
