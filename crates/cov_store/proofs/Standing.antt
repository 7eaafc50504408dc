-- The commands of an image's records, one after another, up to where they end or one is damaged.
use Rattle.std.proofs.Common.{◌≡◌, ◌≢◌, inl, inr, ℕ, ◌+◌, List, [], ◌∷◌, ◌++◌, length, get_or, take, drop, Option, Some, None, refl, sym, ◌∙◌, ap, subst, arith, append_assoc}
use Rattle.std.specs.List.{AllByRecursion}
use Rattle.std.proofs.lemmas.List.{append-nil, take_at, drop_at}
use Rattle.cov_edit.specs.declared.command.Command.{Command}
use Rattle.cov_history.specs.Verdict.{verdict, IsLegal, IsLegalFrom}
use Rattle.cov_history.specs.declared.refusal.Refusal.{Refusal}
use Rattle.cov_journal.specs.Journal.{header, no_digest, next_digest, last_digest, body, records, stored}
use Rattle.cov_journal.specs.Laws.{AreShort}
use Rattle.cov_journal.proofs.CallerLemmas.{length-body, length-digest, one_journal}
use Rattle.cov_record.specs.FitsRecord.{FitsRecord}
use Rattle.cov_record.specs.Payload.{payload}
use Rattle.cov_record.proofs.CallerLemmas.{one_command, one_history as one_list}
use Rattle.cov_store.specs.Damages.{Begins, HasCause, IsDamagedAfter}
use Rattle.cov_store.specs.Laws.{OneHistory, OneDamage, DamagedIsNone, NoStoreIsNone}
use Rattle.cov_store.specs.Stands.{payloads}
use Rattle.cov_store.specs.declared.damage.StoreDamage.{StoreDamage}
use Rattle.cov_store.specs.declared.damage.StoreDamage.TheVariants as damages
use Rattle.cov_store.proofs.Framing.{begins_one, begins_whole}
use Rattle.cov_store.proofs.Legal.{payloads-are-short}

-- a record whose payload and digest are told otherwise isn't of these
other_digest : (before behind : List ℕ) (x : (p : List ℕ) × (d : List ℕ) × Begins behind p d × (d ≢ next_digest before p)) (p : List ℕ) → Begins behind p (next_digest before p) → ⊥
other_digest before behind x p b =
    let one = begins_one behind x.0 x.1 p (next_digest before p) x.2 b in
    x.3 (one.1 ∙ ap (next_digest before) (sym one.0))

refused_alike : (r s : Refusal) (o : Option Refusal) → o ≡ Some r → o ≡ Some s → r ≡ s
refused_alike r s o e f = cc

-- a record has one cause of damage at most
cause_one : (history : List Command) (before behind : List ℕ) (a b : StoreDamage) → HasCause history before behind a → HasCause history before behind b → a ≡ b
cause_one h before r damages.Cut damages.Cut x y = refl
cause_one h before r damages.Cut damages.Digest x y = absurd (begins_whole r y.0 y.1 y.2 x)
cause_one h before r damages.Cut damages.NotARecord x y = absurd (begins_whole r y.0 (next_digest before y.0) y.1 x)
cause_one h before r damages.Cut (damages.Refused s) x y = absurd (begins_whole r (payload y.0) (next_digest before (payload y.0)) y.1 x)
cause_one h before r damages.Digest damages.Cut x y = absurd (begins_whole r x.0 x.1 x.2 y)
cause_one h before r damages.Digest damages.Digest x y = refl
cause_one h before r damages.Digest damages.NotARecord x y = absurd (other_digest before r x y.0 y.1)
cause_one h before r damages.Digest (damages.Refused s) x y = absurd (other_digest before r x (payload y.0) y.1)
cause_one h before r damages.NotARecord damages.Cut x y = absurd (begins_whole r x.0 (next_digest before x.0) x.1 y)
cause_one h before r damages.NotARecord damages.Digest x y = absurd (other_digest before r y x.0 x.1)
cause_one h before r damages.NotARecord damages.NotARecord x y = refl
cause_one h before r damages.NotARecord (damages.Refused s) x y =
    absurd (x.2 y.0 (y.2, (begins_one r x.0 (next_digest before x.0) (payload y.0) (next_digest before (payload y.0)) x.1 y.1).0))
cause_one h before r (damages.Refused s) damages.Cut x y = absurd (begins_whole r (payload x.0) (next_digest before (payload x.0)) x.1 y)
cause_one h before r (damages.Refused s) damages.Digest x y = absurd (other_digest before r y (payload x.0) x.1)
cause_one h before r (damages.Refused s) damages.NotARecord x y =
    absurd (y.2 x.0 (x.2, (begins_one r y.0 (next_digest before y.0) (payload x.0) (next_digest before (payload x.0)) y.1 x.1).0))
cause_one h before r (damages.Refused s) (damages.Refused t) x y =
    let one = begins_one r (payload x.0) (next_digest before (payload x.0)) (payload y.0) (next_digest before (payload y.0)) x.1 y.1 in
    let same : x.0 ≡ y.0 = one_command (payload x.0) x.0 y.0 (x.2, refl) (y.2, one.0) in
    ap damages.Refused (refused_alike s t (verdict h y.0) (ap (verdict h) (sym same) ∙ x.3) y.3)

-- the whole record of a command that is accepted isn't damaged
accepted_whole : (history : List Command) (before behind : List ℕ) (c : Command) (a : StoreDamage) → FitsRecord c → verdict history c ≡ None → Begins behind (payload c) (next_digest before (payload c))
    → HasCause history before behind a → ⊥
accepted_whole h before r c damages.Cut fits accepted b x = begins_whole r (payload c) (next_digest before (payload c)) b x
accepted_whole h before r c damages.Digest fits accepted b x = other_digest before r x (payload c) b
accepted_whole h before r c damages.NotARecord fits accepted b x = x.2 c (fits, (begins_one r x.0 (next_digest before x.0) (payload c) (next_digest before (payload c)) x.1 b).0)
accepted_whole h before r c (damages.Refused s) fits accepted b x =
    let one = begins_one r (payload x.0) (next_digest before (payload x.0)) (payload c) (next_digest before (payload c)) x.1 b in
    let same : x.0 ≡ c = one_command (payload x.0) x.0 c (x.2, refl) (fits, one.0) in
    let told : verdict h c ≡ Some s = ap (verdict h) (sym same) ∙ x.3 in
    absurd (cc)

-- bytes with the records of a history that goes on another, and then a byte and others
record Goes (past : List Command) (before bytes : List ℕ) (history : List Command) (gate : ℕ) (rest : List ℕ) : Type 0 where
  legal : IsLegalFrom past history
  fits : AllByRecursion FitsRecord history
  short : AreShort (payloads history)
  bytes_are : bytes ≡ records before (payloads history) ++ gate ∷ rest

-- the bytes behind the first of them
abbrev rest_of : Command → List ℕ → List ℕ
rest_of c bytes = drop (length (payload c) + 37) bytes

module _ (past : List Command) (before bytes : List ℕ) (c : Command) (history : List Command) (gate : ℕ) (rest : List ℕ) (g : Goes past before bytes (c ∷ history) gate rest) where
  abbrev d : List ℕ
  d = next_digest before (payload c)

  abbrev behind : List ℕ
  behind = records d (payloads history) ++ gate ∷ rest

  split : bytes ≡ 1 ∷ (body d (payload c) ++ behind)
  split = g.bytes_are ∙ ap (λ l. 1 ∷ l) (append_assoc (body d (payload c)) (records d (payloads history)) (gate ∷ rest))

  size : length d ≡ 32
  size = length-digest (before ++ payload c)

  first_open : get_or bytes 0 0 ≡ 1
  first_open = ap (λ l. get_or l 0 0) split

  goes_on : Goes (past ++ c ∷ []) d (rest_of c bytes) history gate rest
  goes_on = record {
    legal = g.legal.2;
    fits = g.fits.1;
    short = g.short.1;
    bytes_are =
        let long : length (1 ∷ body d (payload c)) ≡ length (payload c) + 37 = omega (arith, length-body d (payload c) size) in
        ap (rest_of c) split ∙ drop_at (1 ∷ body d (payload c)) behind (length (payload c) + 37) long;
  }

  begins_by : (l : List ℕ) → behind ≡ l → (k : ℕ) (ks : List ℕ) → l ≡ k ∷ ks → Begins (drop 1 bytes) (payload c) d
  begins_by l is k ks more = record { short = g.short.0; size = size; gate = k; rest = ks; bytes = ap (drop 1) split ∙ ap (λ l. body d (payload c) ++ l) (is ∙ more) }

  begins_with : (ps : List (List ℕ)) → payloads history ≡ ps → Begins (drop 1 bytes) (payload c) d
  begins_with [] is = begins_by (gate ∷ rest) (ap (λ ps. records d ps ++ gate ∷ rest) is) gate rest refl
  begins_with (p ∷ ps) is =
      begins_by (records d (p ∷ ps) ++ gate ∷ rest) (ap (λ ps. records d ps ++ gate ∷ rest) is) 1 ((body (next_digest d p) p ++ records (next_digest d p) ps) ++ gate ∷ rest) refl

  begins : Begins (drop 1 bytes) (payload c) d
  begins = begins_with (payloads history) refl

-- bytes with the records of a history and then a damaged one
record Breaks (past : List Command) (before bytes : List ℕ) (history : List Command) (a : StoreDamage) : Type 0 where
  behind : List ℕ
  goes : Goes past before bytes history 1 behind
  cause : HasCause (past ++ history) (last_digest before (payloads history)) behind a

-- bytes with the records of a history and then a closed gate
record Closes (past : List Command) (before bytes : List ℕ) (history : List Command) : Type 0 where
  gate : ℕ
  rest : List ℕ
  is_closed : gate ≢ 1
  goes : Goes past before bytes history gate rest

breaks_on : (past : List Command) (before bytes : List ℕ) (c : Command) (history : List Command) (a : StoreDamage) → Breaks past before bytes (c ∷ history) a
    → Breaks (past ++ c ∷ []) (next_digest before (payload c)) (rest_of c bytes) history a
breaks_on past before bytes c history a x = record {
  behind = x.behind;
  goes = goes_on past before bytes c history 1 x.behind x.goes;
  cause = subst (λ h. HasCause h (last_digest before (payloads (c ∷ history))) x.behind a) (sym (append_assoc past (c ∷ []) history)) x.cause;
}

closes_on : (past : List Command) (before bytes : List ℕ) (c : Command) (history : List Command) → Closes past before bytes (c ∷ history)
    → Closes (past ++ c ∷ []) (next_digest before (payload c)) (rest_of c bytes) history
closes_on past before bytes c history x = record { gate = x.gate; rest = x.rest; is_closed = x.is_closed; goes = goes_on past before bytes c history x.gate x.rest x.goes }

-- the first record of bytes is of one command at most
first_one : (past : List Command) (before bytes : List ℕ) (c e : Command) (g h : List Command) (m n : ℕ) (r s : List ℕ) → Goes past before bytes (c ∷ g) m r → Goes past before bytes (e ∷ h) n s → c ≡ e
first_one past before bytes c e g h m n r s x y =
    let one = begins_one (drop 1 bytes) (payload c) (next_digest before (payload c)) (payload e) (next_digest before (payload e))
    (begins past before bytes c g m r x) (begins past before bytes e h n s y) in
    one_command (payload c) c e (x.fits.0, refl) (y.fits.0, one.0)

-- where one history ends with a damaged record, another has no command more
breaks_none : (past : List Command) (before bytes : List ℕ) (a : StoreDamage) (c : Command) (h : List Command) (n : ℕ) (s : List ℕ) → Breaks past before bytes [] a → Goes past before bytes (c ∷ h) n s → ⊥
breaks_none past before bytes a c h n s x y =
    accepted_whole (past ++ []) before x.behind c a y.fits.0 (subst (λ p. verdict p c ≡ None) (sym (append-nil past)) y.legal.1)
    (subst (λ r. Begins r (payload c) (next_digest before (payload c))) (ap (drop 1) x.goes.bytes_are) (begins past before bytes c h n s y)) x.cause

one_break : (past : List Command) (before bytes : List ℕ) (g h : List Command) (a b : StoreDamage) → Breaks past before bytes g a → Breaks past before bytes h b → (g ≡ h) × (a ≡ b)
one_break past before bytes [] [] a b x y =
    let same : x.behind ≡ y.behind = sym (ap (drop 1) x.goes.bytes_are) ∙ ap (drop 1) y.goes.bytes_are in
    (refl, cause_one (past ++ []) before y.behind a b (subst (λ r. HasCause (past ++ []) before r a) same x.cause) y.cause)
one_break past before bytes [] (e ∷ h) a b x y = absurd (breaks_none past before bytes a e h 1 y.behind x y.goes)
one_break past before bytes (c ∷ g) [] a b x y = absurd (breaks_none past before bytes b c g 1 x.behind y x.goes)
one_break past before bytes (c ∷ g) (e ∷ h) a b x y =
    let same : c ≡ e = first_one past before bytes c e g h 1 1 x.behind y.behind x.goes y.goes in
    let other = subst (λ k. Breaks (past ++ k ∷ []) (next_digest before (payload k)) (rest_of k bytes) h b) (sym same) (breaks_on past before bytes e h b y) in
    let rest = one_break (past ++ c ∷ []) (next_digest before (payload c)) (rest_of c bytes) g h a b (breaks_on past before bytes c g a x) other in
    ((λ i. same i ∷ rest.0 i), rest.1)

no_break : (past : List Command) (before bytes : List ℕ) (g h : List Command) (a : StoreDamage) → Breaks past before bytes g a → Closes past before bytes h → ⊥
no_break past before bytes [] [] a x y = y.is_closed (ap (λ l. get_or l 0 0) (sym y.goes.bytes_are ∙ x.goes.bytes_are))
no_break past before bytes [] (e ∷ h) a x y = breaks_none past before bytes a e h y.gate y.rest x y.goes
no_break past before bytes (c ∷ g) [] a x y = y.is_closed (ap (λ l. get_or l 0 0) (sym y.goes.bytes_are) ∙ first_open past before bytes c g 1 x.behind x.goes)
no_break past before bytes (c ∷ g) (e ∷ h) a x y =
    let same : c ≡ e = first_one past before bytes c e g h 1 y.gate x.behind y.rest x.goes y.goes in
    let other = subst (λ k. Closes (past ++ k ∷ []) (next_digest before (payload k)) (rest_of k bytes) h) (sym same) (closes_on past before bytes e h y) in
    no_break (past ++ c ∷ []) (next_digest before (payload c)) (rest_of c bytes) g h a (breaks_on past before bytes c g a x) other

-- behind its header an image's records go on the empty history
behind_header : (image rest : List ℕ) (history : List Command) (gate : ℕ) → IsLegal history → AllByRecursion FitsRecord history → image ≡ stored (payloads history) (gate ∷ rest) → Goes [] no_digest (drop 12 image) history gate rest
behind_header image rest history gate legal fits is = record {
  legal = legal;
  fits = fits;
  short = payloads-are-short history legal fits;
  bytes_are = ap (drop 12) is ∙ drop_at header (records no_digest (payloads history) ++ gate ∷ rest) 12 refl;
}

damage_breaks : (image : List ℕ) (history : List Command) (a : StoreDamage) → IsDamagedAfter history image a → Breaks [] no_digest (drop 12 image) history a
damage_breaks image history a x = record { behind = x.behind; goes = behind_header image x.behind history 1 x.legal x.fits x.bytes; cause = x.cause_is }

pub one_damage : OneDamage
one_damage image k n a b first second =
    let one = one_break [] no_digest (drop 12 image) first.history second.history a b (damage_breaks image first.history a first.after) (damage_breaks image second.history b second.after) in
    (one.0, first.number_is ∙ ap (λ h. length h + 1) one.0 ∙ sym second.number_is, one.1)

pub damaged_is_none : DamagedIsNone
damaged_is_none image history number a damage stands =
    elim stands.holds [
      | inl none ↦ absurd (omega (arith, none.1, damage.long))
      | inr w ↦
          no_break [] no_digest (drop 12 image) damage.history history a (damage_breaks image damage.history a damage.after)
          (record { gate = w.gate; rest = w.rest; is_closed = w.is_closed; goes = behind_header image w.rest history w.gate stands.legal stands.fits w.bytes })
    ]

has_header : (image behind : List ℕ) (ps : List (List ℕ)) → image ≡ stored ps behind → take 12 image ≡ header
has_header image behind ps is = ap (take 12) is ∙ take_at header (records no_digest ps ++ behind) 12 refl

pub no_store_is_none : NoStoreIsNone
no_store_is_none image none = (
  λ history stands. elim stands.holds [ inl small ↦ absurd (omega (arith, small.1, none.0)) | inr w ↦ none.1 (has_header image (w.gate ∷ w.rest) (payloads history) w.bytes) ],
  λ number cause damage. none.1 (has_header image (1 ∷ damage.after.behind) (payloads damage.history) damage.after.bytes),
)

pub one_history : OneHistory
one_history image a b x y =
    one_list a b x.fits y.fits (one_journal image (payloads a) (payloads b) (payloads-are-short a x.legal x.fits) (payloads-are-short b y.legal y.fits) x.holds y.holds)
