-- The steps of one call for an item.
use Rattle.std.proofs.Common.{◌≡◌, ◌≢◌, ℕ, ◌+◌, ◌<◌, Bool, true, false, List, [], ◌∷◌, ◌++◌, length, Option, Some, None, refl, sym, ◌∙◌, ap, subst, arith, append_assoc, append-nil, length-append}
use Rattle.std.specs.Io.KnownBytes.{Consumes}
use Rattle.std.proofs.lemmas.List.Elements.{All-append}
use Rattle.cov_base.specs.Lines.{lines_of}
use Rattle.cov_io.specs.Devices.{Reads}
use Rattle.cov_io.specs.Progress.{Progress, IsBounded, potential}
use Rattle.cov_io.specs.Items.{Gives, GivesTold, IsShort, IsUnterminated, Shrinks}
use Rattle.cov_io.specs.Walk.{IsWithin, Holds, TakesPiece, ReachesEnd, Account, Took, Walks, Arrives, item_of, last_item}
use Rattle.cov_io.specs.declared.buffer.Piece.TheVariants.{Ended, Open}
use Rattle.cov_io.specs.declared.reading.Item.{Item}
use Rattle.cov_io.specs.declared.reading.Item.TheVariants.{End}
use Rattle.cov_io.proofs.CallerLemmas.{tracks_both}
use Rattle.cov_io.proofs.LineLemmas.{lines_of-ended, lines_of-last}

-- how far the reading has come, by its parts
abbrev pub progress : List ℕ → ℕ → Bool → Progress
progress ahead taken ended = record { ahead = ahead; taken = taken; ended = ended }

-- a read that gave nothing
pub consumes_zero : (left later : Option (List ℕ)) (n : ℕ) (bytes : List ℕ) → n ≡ 0 → Reads n bytes left later → Consumes left later []
consumes_zero None later n bytes e read = tt
consumes_zero (Some l) None n bytes e read = absurd read
consumes_zero (Some l) (Some m) n bytes e read = rw e at read.0

-- the same read met the end
pub end_at_zero : (left later : Option (List ℕ)) (n : ℕ) (bytes : List ℕ) → n ≡ 0 → Reads n bytes left later → ReachesEnd left later
end_at_zero None later n bytes e read = tt
end_at_zero (Some l) None n bytes e read = absurd read
end_at_zero (Some l) (Some m) n bytes e read = sym (consumes_zero (Some l) (Some m) n bytes e read) ∙ read.1 e

-- nothing came
consumes_none : (left : Option (List ℕ)) → Consumes left left []
consumes_none None = tt
consumes_none (Some l) = refl

-- two reads came to one
consumes_both : (a b c : Option (List ℕ)) (first second : List ℕ) → Consumes a b first → Consumes b c second → Consumes a c (first ++ second)
consumes_both None b c first second one two = tt
consumes_both (Some l) None c first second one two = absurd one
consumes_both (Some l) (Some m) None first second one two = absurd two
consumes_both (Some l) (Some m) (Some n) first second one two =
    one ∙ ap (λ t. first ++ t) two ∙ sym (append_assoc first second n)

-- nothing was taken yet
pub took_none : (p : Progress) (a : Account) → IsBounded p.ended p.taken → Took [] p p a a
took_none p a bounded = record {
  told = consumes_none a.left;
  taken = omega arith;
  given = omega arith;
  later = omega arith;
  ended = record { later = omega arith; unended = λ no. (no, refl); ended = λ before now. let both : false ≡ true = sym before ∙ now in absurd (cc) };
  bounded = bounded;
}

-- two steps are one
pub took_both : (first second : List ℕ) (old mid new : Progress) (before between after : Account)
    → Took first old mid before between → Took second mid new between after → Took (first ++ second) old new before after
took_both first second old mid new before between after one two = record {
  told = consumes_both before.left between.left after.left first second one.told two.told;
  taken = omega (arith, one.taken, two.taken, length-append first second);
  given = omega (arith, one.given, two.given, length-append first second);
  later = omega (arith, one.later, two.later);
  ended = tracks_both old.ended mid.ended new.ended before.ends between.ends after.ends one.ended two.ended;
  bounded = two.bounded;
}

-- what was taken doesn't depend on what is ahead
pub took_ahead : (came : List ℕ) (old : Progress) (ahead ahead' : List ℕ) (taken : ℕ) (ended : Bool) (before after : Account)
    → Took came old (progress ahead taken ended) before after → Took came old (progress ahead' taken ended) before after
took_ahead came old ahead ahead' taken ended before after took = record {
  told = took.told;
  taken = took.taken;
  given = took.given;
  later = took.later;
  ended = took.ended;
  bounded = took.bounded;
}

-- what is held is short
short_of : (held : Option (List ℕ)) (line : List ℕ) → Holds held line → IsShort (item_of held)
short_of (Some l) line holds = rw holds.0 holds.1
short_of None line holds = tt

-- what is held has no end
unterminated_of : (held : Option (List ℕ)) (line : List ℕ) → Holds held line → IsWithin line → IsUnterminated (item_of held)
unterminated_of (Some l) line holds within = subst IsWithin (sym holds.0) within
unterminated_of None line holds within = tt

-- an item of what is held makes the bound fall
shrinks_of : (held : Option (List ℕ)) (old new : Progress) → potential new < potential old → Shrinks old new (item_of held)
shrinks_of (Some l) old new less = less
shrinks_of None old new less = less

-- the item of what is held is the first line
gives_of : (held : Option (List ℕ)) (line text rest : List ℕ) → Holds held line → lines_of text ≡ line ∷ lines_of rest → Gives text rest (item_of held)
gives_of (Some l) line text rest holds lines = rw holds.0 (lines, holds.1)
gives_of None line text rest holds lines = (line, lines, holds)

-- the item of told bytes
gives_told : (left later : Option (List ℕ)) (came : List ℕ) (old new : Progress) (item : Item) → Consumes left later came
    → ((l m : List ℕ) → left ≡ Some l → later ≡ Some m → l ≡ came ++ m → Gives (old.ahead ++ l) (new.ahead ++ m) item)
    → GivesTold old new left later item
gives_told None later came old new item consumes gives = tt
gives_told (Some l) None came old new item consumes gives = consumes
gives_told (Some l) (Some m) came old new item consumes gives = gives l m refl refl consumes

-- the item of a line whose end was met
arrived : (held : Option (List ℕ)) (line came : List ℕ) (old new : Progress) (before after : Account)
    → IsWithin line → Holds held line → Took came old new before after
    → length new.ahead < length old.ahead + length came
    → ((left later : List ℕ) → before.left ≡ Some left → after.left ≡ Some later → left ≡ came ++ later
    → lines_of (old.ahead ++ left) ≡ line ∷ lines_of (new.ahead ++ later))
    → Arrives (item_of held) old new before after
arrived held line came old new before after within holds took fewer lines = record {
  items =
      gives_told before.left after.left came old new (item_of held) took.told (
      λ l m is is' split. gives_of held line (old.ahead ++ l) (new.ahead ++ m) holds (lines l m is is' split)
      );
  short = short_of held line holds;
  unterminated = unterminated_of held line holds within;
  shrinks = shrinks_of held old new (omega (arith, took.taken, took.bounded.fits, fewer));
  came = came;
  took = took;
}

-- the text up to the byte 10 that was met
text_at_end : (ahead came piece a more a' left later : List ℕ)
    → ahead ++ came ≡ piece ++ a → a ≡ more ++ 10 ∷ a' → left ≡ came ++ later
    → ahead ++ left ≡ (piece ++ more) ++ 10 ∷ (a' ++ later)
text_at_end ahead came piece a more a' left later joined cut split =
    ap (λ t. ahead ++ t) split ∙ sym (append_assoc ahead came later)
    ∙ ap (λ t. t ++ later) (joined ∙ ap (λ t. piece ++ t) cut) ∙ simp append_assoc

-- byte 10 was met
pub line_ended : (line whole : Option (List ℕ)) (old : Progress) (a a' : List ℕ) (taken : ℕ) (ended : Bool) (before after : Account)
    → Walks line old (progress a taken ended) before after → TakesPiece line a a' (Ended whole)
    → Arrives (item_of whole) old (progress a' taken ended) before after
line_ended line whole old a a' taken ended before after walks takes =
    let within : IsWithin (walks.piece ++ takes.0) = All-append (λ b. b ≢ 10) walks.piece takes.0 walks.within takes.1 in
    arrived whole (walks.piece ++ takes.0) walks.came old (progress a' taken ended) before after within
    (takes.3 walks.piece walks.held)
    (took_ahead walks.came old a a' taken ended before after walks.took)
    (omega (arith, ap length walks.joined, ap length takes.2, length-append old.ahead walks.came, length-append walks.piece a, length-append takes.0 (10 ∷ a')))
    (λ left later is is' split.
    ap lines_of (text_at_end old.ahead walks.came walks.piece a takes.0 a' left later walks.joined takes.2 split)
    ∙ lines_of-ended (walks.piece ++ takes.0) (a' ++ later) within)

-- the line goes on behind what was ahead
pub line_open : (line more : Option (List ℕ)) (old : Progress) (a a' : List ℕ) (taken : ℕ) (ended : Bool) (before after : Account)
    → Walks line old (progress a taken ended) before after → TakesPiece line a a' (Open more)
    → Walks more old (progress a' taken ended) before after
line_open line more old a a' taken ended before after walks takes = record {
  piece = walks.piece ++ a;
  came = walks.came;
  within = All-append (λ b. b ≢ 10) walks.piece a walks.within takes.0;
  held = takes.2 walks.piece walks.held;
  joined = rw takes.1 (walks.joined ∙ sym (append-nil (walks.piece ++ a)));
  took = took_ahead walks.came old a a' taken ended before after walks.took;
}

-- more bytes came
pub line_filled : (line : Option (List ℕ)) (old mid new : Progress) (before between after : Account)
    → Walks line old mid before between → mid.ahead ≡ [] → Took new.ahead mid new between after
    → Walks line old new before after
line_filled line old mid new before between after walks empty took = record {
  piece = walks.piece;
  came = walks.came ++ new.ahead;
  within = walks.within;
  held = walks.held;
  joined =
      sym (append_assoc old.ahead walks.came new.ahead)
      ∙ ap (λ t. t ++ new.ahead) (walks.joined ∙ ap (λ t. walks.piece ++ t) empty ∙ append-nil walks.piece);
  took = took_both walks.came new.ahead old mid new before between after walks.took took;
}

-- nothing is left at the end
none_left : (first second third : Option (List ℕ)) (came left later : List ℕ)
    → Consumes first second came → ReachesEnd second third → first ≡ Some left → third ≡ Some later → later ≡ []
none_left None second third came left later consumes ends is is' = absurd (cc)
none_left (Some l) None third came left later consumes ends is is' = absurd consumes
none_left (Some l) (Some m) None came left later consumes ends is is' = absurd (cc)
none_left (Some l) (Some m) (Some n) came left later consumes ends is is' = cc

-- a line that the end of input ends
last_line : (line : Option (List ℕ)) (b : ℕ) (bs came : List ℕ) (old new : Progress) (before after : Account)
    → IsWithin (b ∷ bs) → Holds line (b ∷ bs) → Took came old new before after
    → old.ahead ++ came ≡ b ∷ bs → new.ahead ≡ []
    → ((left later : List ℕ) → before.left ≡ Some left → after.left ≡ Some later → later ≡ [])
    → Arrives (item_of line) old new before after
last_line line b bs came old new before after within holds took joined empty ends =
    arrived line (b ∷ bs) came old new before after within holds took
    (omega (arith, ap length joined, ap length empty, length-append old.ahead came))
    (λ left later is is' split.
    let none : later ≡ [] = ends left later is is' in
    let text : old.ahead ++ left ≡ b ∷ bs
    = ap (λ t. old.ahead ++ t) (split ∙ ap (λ t. came ++ t) none ∙ append-nil came) ∙ joined in
    let rest : new.ahead ++ later ≡ [] = ap (λ t. t ++ later) empty ∙ none in
    rw (text, rest) (lines_of-last b bs within))

-- the end of input was met behind these bytes
last : (line : Option (List ℕ)) (piece came : List ℕ) (old new : Progress) (before after : Account)
    → IsWithin piece → Holds line piece → Took came old new before after
    → old.ahead ++ came ≡ piece → new.ahead ≡ []
    → ((left later : List ℕ) → before.left ≡ Some left → after.left ≡ Some later → later ≡ [])
    → Arrives (last_item line) old new before after
last None [] came old new before after within holds took joined empty ends = absurd (omega arith)
last (Some []) [] came old new before after within holds took joined empty ends = record {
  items =
      gives_told before.left after.left came old new End took.told (λ l m is is' split.
      let none : m ≡ [] = ends l m is is' in (
        ap (λ t. old.ahead ++ t) (split ∙ ap (λ t. came ++ t) none ∙ append-nil came) ∙ joined,
        ap (λ t. t ++ m) empty ∙ none,
      ));
  short = tt;
  unterminated = tt;
  shrinks = tt;
  came = came;
  took = took;
}
last (Some (b ∷ bs)) [] came old new before after within holds took joined empty ends = absurd (let e : b ∷ bs ≡ [] = holds.0 in cc)
last (Some []) (p ∷ ps) came old new before after within holds took joined empty ends = absurd (let e : [] ≡ p ∷ ps = holds.0 in cc)
last (Some (b ∷ bs)) (p ∷ ps) came old new before after within holds took joined empty ends =
    last_line (Some (b ∷ bs)) p ps came old new before after within holds took joined empty ends
last None (p ∷ ps) came old new before after within holds took joined empty ends =
    last_line None p ps came old new before after within holds took joined empty ends

-- the end of input was met
pub line_last : (line : Option (List ℕ)) (old mid new : Progress) (before between after : Account)
    → Walks line old mid before between → mid.ahead ≡ [] → new.ahead ≡ [] → Took [] mid new between after
    → ReachesEnd between.left after.left
    → Arrives (last_item line) old new before after
line_last line old mid new before between after walks empty empty' took ends =
    last line walks.piece (walks.came ++ []) old new before after walks.within walks.held
    (took_both walks.came [] old mid new before between after walks.took took)
    (ap (λ t. old.ahead ++ t) (append-nil walks.came) ∙ walks.joined ∙ ap (λ t. walks.piece ++ t) empty ∙ append-nil walks.piece)
    empty'
    (λ left later is is'. none_left before.left between.left after.left walks.came left later walks.took.told ends is is')
