-- Worked lines.
use Rattle.std.proofs.Common.{◌≡◌, ℕ, true, false, [], ◌∷◌, ◌++◌, map, replicate, Some, None, Result, Ok, Err, refl}
use Rattle.std.specs.Prelude.{codes}
use Rattle.std.specs.Str.{is_utf8, chars}
use lib.Utf8.{encode}
use Rattle.cov_expr.specs.Formula.{True, On, And, Or, Not}
use Rattle.cov_script.specs.Fields.{long_number_of}
use Rattle.cov_script.specs.Lines.{form_of}
use Rattle.cov_script.specs.declared.line.Line.{Line}
use Rattle.cov_script.specs.declared.line.Line.TheVariants as lines
use Rattle.cov_script.specs.declared.line.LineField.TheVariants.{Number, Own}
use Rattle.cov_script.specs.declared.line.LineSyntax.{LineSyntax}
use Rattle.cov_script.specs.declared.line.LineSyntax.TheVariants.{Syntax, TooLong}

abbrev at : ℕ → Result Line LineSyntax
at place = Err (Syntax place)

-- an unknown keyword, a missing field, a field that isn't of its kind, and bytes after the last field
places_of_rules : map form_of (codes "optoin a" ∷ codes " option a" ∷ codes "option" ∷ codes "option " ∷ codes "option  a" ∷ codes "option a b" ∷ codes "option a " ∷ codes "constraint" ∷ codes "constraint a &" ∷ codes "constraint a $" ∷ codes "default a of" ∷ codes "complete a=yes" ∷ codes "where 00" ∷ codes "where 4294967296" ∷ [])
    ≡ map at (0 ∷ 0 ∷ 6 ∷ 7 ∷ 7 ∷ 8 ∷ 8 ∷ 10 ∷ 14 ∷ 13 ∷ 10 ∷ 9 ∷ 6 ∷ 6 ∷ [])
places_of_rules = refl

rules : map form_of ([] ∷ codes "# option" ∷ codes "option 9x" ∷ codes "constraint  a" ∷ codes "prefer a | !b" ∷ codes "default a off" ∷ codes "complete a=on,b=off" ∷ codes "where 4294967295" ∷ [])
    ≡ Ok lines.Nothing ∷ Ok lines.Nothing ∷ Ok (lines.Option (codes "9x")) ∷ Ok (lines.Constraint (On (codes "a"))) ∷ Ok (lines.Prefer (Or (On (codes "a")) (Not (On (codes "b")))))
    ∷ Ok (lines.Default (codes "a") false) ∷ Ok (lines.Complete ((codes "a", true) ∷ (codes "b", false) ∷ [])) ∷ Ok (lines.Presence 4294967295) ∷ []
rules = refl

places_of_sessions : map form_of (codes "open s - fro a" ∷ codes "open s - for a)" ∷ codes "side" ∷ codes "side / a" ∷ codes "side s" ∷ codes "side s " ∷ codes "side s a &" ∷ codes "side s a $" ∷ codes "side s a b" ∷ codes "mkdir s /" ∷ codes "mkfile s m" ∷ codes "rename s /m /n" ∷ codes "insert s /m 4294967296 one" ∷ codes "insert s /m 01 one" ∷ codes "insert s /m  1" ∷ codes "delete s /m 12 " ∷ codes "show s  /m" ∷ codes "refresh s s" ∷ codes "drop .." ∷ codes "alt - a" ∷ [])
    ≡ map at (9 ∷ 14 ∷ 4 ∷ 5 ∷ 6 ∷ 7 ∷ 10 ∷ 9 ∷ 9 ∷ 8 ∷ 9 ∷ 12 ∷ 12 ∷ 12 ∷ 12 ∷ 14 ∷ 7 ∷ 9 ∷ 5 ∷ 7 ∷ [])
unfolding is_utf8 chars encode
places_of_sessions = refl

sessions : map form_of (codes "open s a=on for a & b" ∷ codes "side s a | !b" ∷ codes "side s  true " ∷ codes "insert s /m +0" ∷ codes "insert s /m +0 " ∷ codes "insert s /m 7  one two" ∷ codes "delete s / 0" ∷ codes "cat - /d/m" ∷ codes "alt - 9x /m" ∷ [])
    ≡ Ok (lines.OpenSession (codes "s") ((codes "a", true) ∷ []) (And (On (codes "a")) (On (codes "b")))) ∷ Ok (lines.Side (codes "s") (Or (On (codes "a")) (Not (On (codes "b"))))) ∷ Ok (lines.Side (codes "s") True) ∷ Ok (lines.Insert (codes "s") (codes "m" ∷ []) (Own 0) []) ∷ Ok (lines.Insert (codes "s") (codes "m" ∷ []) (Own 0) [])
    ∷ Ok (lines.Insert (codes "s") (codes "m" ∷ []) (Number 7) (codes " one two")) ∷ Ok (lines.Delete (codes "s") [] (Number 0)) ∷ Ok (lines.Cat [] (codes "d" ∷ codes "m" ∷ [])) ∷ Ok (lines.Alt [] (codes "9x") (codes "m" ∷ [])) ∷ []
unfolding is_utf8 chars encode
sessions = refl

variants : map form_of (codes "checkout t -" ∷ codes "checkout t a=off" ∷ codes "alt d=on d /m" ∷ codes "cond d=on /m" ∷ codes "cond - /" ∷ codes "where 1" ∷ [])
    ≡ Ok (lines.Checkout (codes "t") []) ∷ Ok (lines.Checkout (codes "t") ((codes "a", false) ∷ [])) ∷ Ok (lines.Alt ((codes "d", true) ∷ []) (codes "d") (codes "m" ∷ [])) ∷ Ok (lines.Conditional ((codes "d", true) ∷ []) (codes "m" ∷ [])) ∷ Ok (lines.Conditional [] []) ∷ Ok (lines.Presence 1) ∷ []
unfolding is_utf8 chars encode
variants = refl

places_of_variants : map form_of (codes "checkout t" ∷ codes "checkout - t" ∷ codes "checkout t/ -" ∷ codes "alt - a m" ∷ codes "alt -  /m" ∷ codes "cond" ∷ codes "cond -" ∷ codes "cond /m -" ∷ codes "cond - m" ∷ codes "cond - /m " ∷ codes "where" ∷ codes "where +1" ∷ codes "where 1 " ∷ [])
    ≡ map at (10 ∷ 11 ∷ 9 ∷ 8 ∷ 6 ∷ 4 ∷ 6 ∷ 5 ∷ 7 ∷ 9 ∷ 5 ∷ 6 ∷ 7 ∷ [])
unfolding is_utf8 chars encode
places_of_variants = refl

-- nothing stands behind the word of an upgrade
upgrades : map form_of (codes "upgrade" ∷ codes "upgrade " ∷ codes "upgrade x" ∷ codes "upgrades" ∷ codes " upgrade" ∷ [])
    ≡ Ok lines.Upgrade ∷ at 7 ∷ at 7 ∷ at 0 ∷ at 0 ∷ []
upgrades = refl

-- the rules are analysed as a whole; a choice is bound by its name
analyses : map form_of (codes "analyse" ∷ codes "analyse " ∷ codes "analyse a" ∷ codes "nearest a=on,b=off" ∷ codes "nearest -" ∷ codes "nearest" ∷ codes "nearest a" ∷ codes "nearest - " ∷ [])
    ≡ Ok lines.Analyse ∷ at 7 ∷ at 7 ∷ Ok (lines.Nearest ((codes "a", true) ∷ (codes "b", false) ∷ [])) ∷ Ok (lines.Nearest []) ∷ at 7 ∷ at 8 ∷ at 9 ∷ []
analyses = refl

-- a position is a number without a sign and without leading zeros
positions : map form_of (codes "past 3 d=on /m" ∷ codes "past 4294967295 - /" ∷ codes "past 03 - /m" ∷ codes "past +3 - /m" ∷ codes "past" ∷ codes "past 3 -" ∷ codes "past d=on 3 /m" ∷ codes "past 3 - m" ∷ codes "past 3 - /m " ∷ [])
    ≡ Ok (lines.Past 3 ((codes "d", true) ∷ []) (codes "m" ∷ [])) ∷ Ok (lines.Past 4294967295 [] []) ∷ at 5 ∷ at 5 ∷ at 4 ∷ at 8 ∷ at 5 ∷ at 9 ∷ at 11 ∷ []
unfolding is_utf8 chars encode
positions = refl

written_pasts : map form_of (codes "pastout t 3 d=off" ∷ codes "pastout t 0 -" ∷ codes "pastout t" ∷ codes "pastout t/ 3 -" ∷ codes "pastout t -" ∷ codes "pastout t 4294967296 -" ∷ codes "pastout t 3 /m" ∷ codes "pastout t 3 - " ∷ [])
    ≡ Ok (lines.PastOut (codes "t") 3 ((codes "d", false) ∷ [])) ∷ Ok (lines.PastOut (codes "t") 0 []) ∷ at 9 ∷ at 8 ∷ at 10 ∷ at 10 ∷ at 12 ∷ at 13 ∷ []
unfolding is_utf8 chars encode
written_pasts = refl

pasts : map form_of (codes "log d=off" ∷ codes "log" ∷ codes "log - -" ∷ codes "blame d=on /d/m" ∷ codes "blame -" ∷ codes "blame /m -" ∷ codes "blame - m" ∷ codes "blame - /m " ∷ [])
    ≡ Ok (lines.Log ((codes "d", false) ∷ [])) ∷ at 3 ∷ at 5 ∷ Ok (lines.Blame ((codes "d", true) ∷ []) (codes "d" ∷ codes "m" ∷ [])) ∷ at 7 ∷ at 6 ∷ at 8 ∷ at 10 ∷ []
unfolding is_utf8 chars encode
pasts = refl

-- a text has at most 4,096 bytes and no line's end
texts : map form_of ((codes "insert s /m 0 " ++ replicate 4097 120) ∷ (codes "insert s /m 0 a" ++ 10 ∷ codes "b") ∷ [])
    ≡ map at (14 ∷ 14 ∷ [])
unfolding is_utf8 chars encode
texts = refl

-- an expression has at most 256 tokens, and a byte that is none comes first
too_long : map form_of ((codes "constraint " ++ replicate 256 33 ++ codes "a") ∷ (codes "constraint " ++ replicate 256 33 ++ codes "$") ∷ (codes "side s " ++ replicate 256 33 ++ codes "a") ∷ (codes "side s " ++ replicate 255 33) ∷ [])
    ≡ Err TooLong ∷ at 267 ∷ Err TooLong ∷ at 262 ∷ []
unfolding is_utf8 chars encode
too_long = refl

-- numbers of 64 bits, the greatest among them; no number at all, one with a leading zero, with a sign, and one of more bits
numbers : map long_number_of (codes "0" ∷ codes "7" ∷ codes "18446744073709551615" ∷ [] ∷ codes "07" ∷ codes "+1" ∷ codes "-1" ∷ codes "18446744073709551616" ∷ [])
    ≡ Some 0 ∷ Some 7 ∷ Some 18446744073709551615 ∷ None ∷ None ∷ None ∷ None ∷ None ∷ []
numbers = refl
