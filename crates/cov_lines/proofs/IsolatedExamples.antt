-- A session's own lines among those of another, worked.
use Rattle.std.proofs.Common.{◌≡◌, refl, ℕ, List, [], ◌∷◌}
use Rattle.std.specs.Prelude.{codes}
use Rattle.std.specs.Str.{is_utf8, chars}
use Rattle.std.specs.Fmt.{digits}
use lib.Utf8.{encode}
use Rattle.cov_lines.specs.Isolation.{after, own_replies, own_script}
use Rattle.cov_lines.specs.States.{starting}
use Rattle.cov_lines.specs.Step.{step, acted, served, served_declaration, served_session, served_edit, served_question, opened, side_changed, made_in, inserted, shown, listed_at, committed, node_at, told, file_told}

-- two sessions on one base, of which one commits while the other edits, at last on another side
abbrev script : List (List ℕ)
script = codes "mkfile s /m" ∷ codes "mkfile t /n" ∷ codes "insert t /n 0 x" ∷ codes "commit t" ∷ codes "side s !false" ∷ codes "side t true" ∷ codes "insert s /m 0 y" ∷ codes "cat - /n" ∷ codes "show s /n" ∷ codes "list s /" ∷ []

pub own_lines_alone : own_script (codes "s") script ≡ codes "mkfile s /m" ∷ codes "insert s /m 0 y" ∷ codes "show s /n" ∷ codes "list s /" ∷ []
unfolding is_utf8 chars encode
own_lines_alone = refl

pub replies_among_others : own_replies (codes "s") (after (starting []) (codes "open s - for true" ∷ codes "open t - for true" ∷ [])) script
    ≡ codes "ok\n" ∷ codes "ok +0\n" ∷ codes "refused no-such-path\n" ∷ codes "ok 1\nf m\n" ∷ []
unfolding is_utf8 chars encode digits step acted served served_declaration served_session served_edit served_question opened side_changed made_in inserted shown listed_at committed node_at told file_told
replies_among_others = refl
