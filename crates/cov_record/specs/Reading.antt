-- What stands at the front of bytes, form by form, and what follows it.
use Rattle.std.specs.Prelude.{◌≡◌, ℕ, zero, suc, Bool, true, false, ◌&&◌, not, nat_lt, nat_le, List, [], ◌∷◌, ◌++◌, length, take, drop, Option, Some, None, Result, Ok, Err}
use Rattle.std.specs.Int.{w16, w32, from_be_bytes}
use Rattle.cov_base.specs.Spelling.{is_line_text, is_name, is_option_name}
use Rattle.cov_base.specs.declared.limits.TheConstants.{CHOICE_WIDTH, MOST_PARTS}
use Rattle.cov_base.specs.declared.error.MemoryOr.{MemoryOr}
use Rattle.cov_base.specs.declared.error.MemoryOr.TheVariants.{Memory, Refused}
use Rattle.cov_base.specs.declared.number.Kind.{Kind}
use Rattle.cov_base.specs.declared.number.Kind.TheVariants.{File, Dir}
use Rattle.cov_base.specs.declared.number.NodeRef.{NodeRef}
use Rattle.cov_base.specs.declared.number.NodeRef.TheVariants as nodes
use Rattle.cov_base.specs.declared.number.LineRef.{LineRef}
use Rattle.cov_base.specs.declared.number.LineRef.TheVariants as lines
use Rattle.cov_expr.specs.Formula.{Formula, False, True, On, Not, And, Or}
use Rattle.cov_edit.specs.Sides.{sided, side_after}
use Rattle.cov_edit.specs.declared.edit.Edit.{Edit}
use Rattle.cov_edit.specs.declared.edit.Edit.TheVariants as edits
use Rattle.cov_edit.specs.declared.sided.Sided.{Sided}
use Rattle.cov_record.specs.declared.expression.Sign.{Sign}
use Rattle.cov_record.specs.declared.expression.Sign.TheVariants.{Never, Always, Named, Negates, Joins, Chooses}
use Rattle.cov_edit.specs.declared.command.Command.{Command}
use Rattle.cov_edit.specs.declared.command.Command.TheVariants as commands
use Rattle.cov_record.specs.SideRuns.{SideRun, side_run, under, laid_out, has_sides, goes_on}

-- what stands at the front and what follows it; none where the bytes begin otherwise
abbrev pub Front : Type 0 → Type 0
Front X = Option (X × List ℕ)

-- what stands behind a form
abbrev pub behind : {X Y : Type 0} → Front X → (X → List ℕ → Front Y) → Front Y
behind None more = None
behind (Some p) more = more p.0 p.1

-- a form, where a test of it holds
abbrev pub given : {X : Type 0} → Bool → X → List ℕ → Front X
given true x rest = Some (x, rest)
given false x rest = None

-- a byte
abbrev pub front_u8 : List ℕ → Front ℕ
front_u8 [] = None
front_u8 (b ∷ rest) = Some (b, rest)

-- a number of two bytes, and one of four, the highest first
abbrev pub front_u16 : List ℕ → Front ℕ
front_u16 (a ∷ b ∷ rest) = given (nat_lt a 256 && nat_lt b 256) (from_be_bytes w16 (a ∷ b ∷ [])) rest
front_u16 _ = None

abbrev pub front_u32 : List ℕ → Front ℕ
front_u32 (a ∷ b ∷ c ∷ d ∷ rest) = given (nat_lt a 256 && (nat_lt b 256 && (nat_lt c 256 && nat_lt d 256))) (from_be_bytes w32 (a ∷ b ∷ c ∷ d ∷ [])) rest
front_u32 _ = None

-- so many bytes
abbrev pub front_bytes : ℕ → List ℕ → Front (List ℕ)
front_bytes n bytes = given (nat_le n (length bytes)) (take n bytes) (drop n bytes)

-- as many bytes as the first says
abbrev pub front_sized : List ℕ → Front (List ℕ)
front_sized bytes = behind (front_u8 bytes) front_bytes

-- the same, where a test of them holds
abbrev pub front_spelt : (List ℕ → Bool) → List ℕ → Front (List ℕ)
front_spelt is_spelt bytes = behind (front_sized bytes) (λ name. given (is_spelt name) name)

abbrev pub front_option_name : List ℕ → Front (List ℕ)
front_option_name bytes = front_spelt is_option_name bytes

abbrev pub front_name : List ℕ → Front (List ℕ)
front_name bytes = front_spelt is_name bytes

-- a text of a line behind its length
abbrev pub front_text : List ℕ → Front (List ℕ)
front_text bytes = behind (front_u16 bytes) (λ n r. behind (front_bytes n r) (λ text. given (is_line_text text) text))

-- a number of forms, one behind another
abbrev pub front_many : {X : Type 0} → (List ℕ → Front X) → ℕ → List ℕ → Front (List X)
front_many front zero bytes = Some ([], bytes)
front_many front (suc n) bytes = behind (front bytes) (λ x r. behind (front_many front n r) (λ xs r. Some (x ∷ xs, r)))

-- the truth value that a byte tells
abbrev pub bit_of : ℕ → List ℕ → Front Bool
bit_of zero rest = Some (false, rest)
bit_of (suc zero) rest = Some (true, rest)
bit_of (suc (suc n)) rest = None

abbrev pub front_bit : List ℕ → Front Bool
front_bit bytes = behind (front_u8 bytes) bit_of

abbrev pub front_bits : ℕ → List ℕ → Front (List Bool)
front_bits n bytes = front_many front_bit n bytes

-- a choice of so many options, if a choice can have them
abbrev pub bits_counted : ℕ → List ℕ → Front (List Bool)
bits_counted n bytes = behind (given (nat_le n CHOICE_WIDTH) n bytes) front_bits

abbrev pub front_choice : List ℕ → Front (List Bool)
front_choice bytes = behind (front_u8 bytes) bits_counted

-- the kind that a byte tells
abbrev pub kind_of : ℕ → List ℕ → Front Kind
kind_of zero rest = Some (File, rest)
kind_of (suc zero) rest = Some (Dir, rest)
kind_of (suc (suc n)) rest = None

abbrev pub front_kind : List ℕ → Front Kind
front_kind bytes = behind (front_u8 bytes) kind_of

-- the reference to a node that a byte and a number tell
abbrev pub node_ref_of : ℕ → ℕ → List ℕ → Front NodeRef
node_ref_of zero x rest = Some (nodes.Old x, rest)
node_ref_of (suc zero) x rest = Some (nodes.New x, rest)
node_ref_of (suc (suc n)) x rest = None

abbrev pub front_node : List ℕ → Front NodeRef
front_node bytes = behind (front_u8 bytes) (λ tag r. behind (front_u32 r) (node_ref_of tag))

-- the same to a line
abbrev pub line_ref_of : ℕ → ℕ → List ℕ → Front LineRef
line_ref_of zero x rest = Some (lines.Old x, rest)
line_ref_of (suc zero) x rest = Some (lines.New x, rest)
line_ref_of (suc (suc n)) x rest = None

abbrev pub front_line : List ℕ → Front LineRef
front_line bytes = behind (front_u8 bytes) (λ tag r. behind (front_u32 r) (line_ref_of tag))

-- what stands behind the byte of each edit
abbrev pub front_new : List ℕ → Front Edit
front_new bytes = behind (front_kind bytes) (λ kind r. behind (front_node r) (λ parent r. behind (front_name r) (λ name r. Some (edits.New kind parent name, r))))

abbrev pub front_insert : List ℕ → Front Edit
front_insert bytes = behind (front_node bytes) (λ file r. behind (front_line r) (λ after r. behind (front_text r) (λ text r. Some (edits.Insert file after text, r))))

abbrev pub front_delete : List ℕ → Front Edit
front_delete bytes = behind (front_node bytes) (λ file r. behind (front_line r) (λ line r. Some (edits.Delete file line, r)))

abbrev pub front_rename : List ℕ → Front Edit
front_rename bytes = behind (front_node bytes) (λ node r. behind (front_name r) (λ name r. Some (edits.Rename node name, r)))

abbrev pub front_move : List ℕ → Front Edit
front_move bytes = behind (front_node bytes) (λ node r. behind (front_node r) (λ parent r. Some (edits.Move node parent, r)))

abbrev pub front_remove : List ℕ → Front Edit
front_remove bytes = behind (front_node bytes) (λ node r. Some (edits.Remove node, r))

-- the edit whose byte was read
abbrev pub edit_of : ℕ → List ℕ → Front Edit
edit_of zero bytes = None
edit_of (suc zero) bytes = front_new bytes
edit_of (suc (suc zero)) bytes = front_insert bytes
edit_of (suc (suc (suc zero))) bytes = front_delete bytes
edit_of (suc (suc (suc (suc zero)))) bytes = front_rename bytes
edit_of (suc (suc (suc (suc (suc zero))))) bytes = front_move bytes
edit_of (suc (suc (suc (suc (suc (suc zero)))))) bytes = front_remove bytes
edit_of (suc (suc (suc (suc (suc (suc (suc n))))))) bytes = None

abbrev pub front_edit : List ℕ → Front Edit
front_edit bytes = behind (front_u8 bytes) edit_of

-- a number of edits
abbrev pub front_edits : ℕ → List ℕ → Front (List Edit)
front_edits n bytes = front_many front_edit n bytes

-- edits behind their number
abbrev pub front_counted : List ℕ → Front (List Edit)
front_counted bytes = behind (front_u32 bytes) front_edits

-- how many expressions a part stands over
abbrev pub width : Sign → ℕ
width Never = 0
width Always = 0
width (Named o) = 0
width Negates = 1
width Joins = 2
width Chooses = 2

-- how many expressions are awaited behind a part, n being awaited besides
abbrev pub awaited : Sign → ℕ → ℕ
awaited Never n = n
awaited Always n = n
awaited (Named o) n = n
awaited Negates n = suc n
awaited Joins n = suc (suc n)
awaited Chooses n = suc (suc n)

-- an option as a part, if a choice can have it
abbrev pub named_of : ℕ → List ℕ → Front Sign
named_of o = given (nat_lt o CHOICE_WIDTH) (Named o)

abbrev pub front_named : List ℕ → Front Sign
front_named bytes = behind (front_u8 bytes) named_of

-- the part that a byte tells
abbrev pub sign_of : ℕ → List ℕ → Front Sign
sign_of zero bytes = Some (Never, bytes)
sign_of (suc zero) bytes = Some (Always, bytes)
sign_of (suc (suc zero)) bytes = front_named bytes
sign_of (suc (suc (suc zero))) bytes = Some (Negates, bytes)
sign_of (suc (suc (suc (suc zero)))) bytes = Some (Joins, bytes)
sign_of (suc (suc (suc (suc (suc zero))))) bytes = Some (Chooses, bytes)
sign_of (suc (suc (suc (suc (suc (suc n)))))) bytes = None

abbrev pub front_sign : List ℕ → Front Sign
front_sign bytes = behind (front_u8 bytes) sign_of

-- a part in front of expressions takes those that it stands over
abbrev pub taken : Sign → List (Formula ℕ) → List (Formula ℕ)
taken Never es = False ∷ es
taken Always es = True ∷ es
taken (Named o) es = On o ∷ es
taken Negates [] = []
taken Negates (e ∷ es) = Not e ∷ es
taken Joins [] = []
taken Joins (a ∷ []) = []
taken Joins (a ∷ b ∷ es) = And a b ∷ es
taken Chooses [] = []
taken Chooses (a ∷ []) = []
taken Chooses (a ∷ b ∷ es) = Or a b ∷ es

-- a number of expressions, of no more parts together than there is room for
abbrev pub front_forest : (room need : ℕ) → List ℕ → Front (List (Formula ℕ))
front_forest room zero bytes = Some ([], bytes)
front_forest zero (suc need) bytes = None
front_forest (suc room) (suc need) bytes =
    behind (front_sign bytes) (λ s r. behind (front_forest room (awaited s need) r) (λ es r. Some (taken s es, r)))

-- the first of some expressions
abbrev pub lone : List (Formula ℕ) → List ℕ → Front (Formula ℕ)
lone [] rest = None
lone (e ∷ es) rest = Some (e, rest)

abbrev pub front_expression : List ℕ → Front (Formula ℕ)
front_expression bytes = behind (front_forest MOST_PARTS 1 bytes) lone

-- edits of the side True, behind their number
abbrev pub front_plain : List ℕ → Front (List Sided)
front_plain bytes = behind (front_counted bytes) (λ es r. Some (under True es, r))

-- so many edits, at least one
abbrev pub edits_counted : ℕ → List ℕ → Front (List Edit)
edits_counted zero bytes = None
edits_counted (suc n) bytes = front_edits (suc n) bytes

-- edits as a run of a side
abbrev pub run_with : Formula ℕ → Front (List Edit) → Front SideRun
run_with side front = behind front (λ es r. Some (side_run side es, r))

-- edits of a side behind their number, of which there is one at least
abbrev pub edits_under : Formula ℕ → List ℕ → Front SideRun
edits_under side bytes = run_with side (behind (front_u32 bytes) edits_counted)

-- the same, if the side isn't that of the edits before
abbrev pub run_under : Option (Formula ℕ) → Formula ℕ → List ℕ → Front SideRun
run_under before side bytes = behind (given (not (goes_on before side)) side bytes) edits_under

-- edits of one side, which stands before them
abbrev pub front_run : Option (Formula ℕ) → List ℕ → Front SideRun
front_run before bytes = behind (front_expression bytes) (run_under before)

-- so many runs, each of another side than that before it
abbrev pub front_runs : Option (Formula ℕ) → ℕ → List ℕ → Front (List SideRun)
front_runs before zero bytes = Some ([], bytes)
front_runs before (suc n) bytes = behind (front_run before bytes) (λ run r. behind (front_runs (Some run.side) n r) (λ runs r. Some (run ∷ runs, r)))

-- runs behind edits, as edits with their sides
abbrev pub laid : List Sided → Front (List SideRun) → Front (List Sided)
laid before front = behind front (λ runs r. Some (before ++ laid_out runs, r))

-- edits, if one of them has a side
abbrev pub if_sided : Front (List Sided) → Front (List Sided)
if_sided front = behind front (λ ss. given (has_sides ss) ss)

-- runs behind their number, as edits of which one has a side
abbrev pub front_by_runs : List ℕ → Front (List Sided)
front_by_runs bytes = behind (front_u32 bytes) (λ n r. if_sided (laid [] (front_runs None n r)))

-- the edits of a commit, whose sides are spelt or not
abbrev pub front_sided : Bool → List ℕ → Front (List Sided)
front_sided true bytes = front_by_runs bytes
front_sided false bytes = front_plain bytes

-- what stands behind the byte of each command
abbrev pub front_default : List ℕ → Front Command
front_default bytes = behind (front_u8 bytes) (λ o r. behind (given (nat_lt o CHOICE_WIDTH) o r) (λ o r. behind (front_bit r) (λ on r. Some (commands.Default o on, r))))

abbrev pub front_rest : Bool → ℕ → List Bool → Formula ℕ → List ℕ → Front Command
front_rest with_sides base choice ambition bytes = behind (front_sided with_sides bytes) (λ ss r. Some (commands.Commit base choice ambition ss, r))

abbrev pub front_ambition : Bool → ℕ → List Bool → List ℕ → Front Command
front_ambition with_sides base choice bytes = behind (front_expression bytes) (front_rest with_sides base choice)

abbrev pub front_commit : Bool → List ℕ → Front Command
front_commit with_sides bytes = behind (front_u32 bytes) (λ base r. behind (front_choice r) (front_ambition with_sides base))

abbrev pub front_option : List ℕ → Front Command
front_option bytes = behind (front_option_name bytes) (λ name r. Some (commands.Option name, r))

abbrev pub front_constraint : List ℕ → Front Command
front_constraint bytes = behind (front_expression bytes) (λ e r. Some (commands.Constraint e, r))

abbrev pub front_prefer : List ℕ → Front Command
front_prefer bytes = behind (front_expression bytes) (λ e r. Some (commands.Prefer e, r))

-- the command whose byte was read
abbrev pub command_of : ℕ → List ℕ → Front Command
command_of zero bytes = None
command_of (suc zero) bytes = front_option bytes
command_of (suc (suc zero)) bytes = front_constraint bytes
command_of (suc (suc (suc zero))) bytes = front_prefer bytes
command_of (suc (suc (suc (suc zero)))) bytes = front_default bytes
command_of (suc (suc (suc (suc (suc zero))))) bytes = front_commit false bytes
command_of (suc (suc (suc (suc (suc (suc zero)))))) bytes = front_commit true bytes
command_of (suc (suc (suc (suc (suc (suc (suc zero))))))) bytes = Some (commands.Upgrade, bytes)
command_of (suc (suc (suc (suc (suc (suc (suc (suc n)))))))) bytes = None

abbrev pub front_command : List ℕ → Front Command
front_command bytes = behind (front_u8 bytes) command_of

-- a form that nothing follows
abbrev pub unfollowed : {X : Type 0} → X → List ℕ → Option X
unfollowed x [] = Some x
unfollowed x (b ∷ rest) = None

abbrev pub alone : {X : Type 0} → Front X → Option X
alone None = None
alone (Some p) = unfollowed p.0 p.1

-- a call took what stands at the front, or there is no such form
abbrev pub Takes : {X : Type 0} → Front X → Option X → List ℕ → Type 0
Takes front None rest = front ≡ None
Takes front (Some x) rest = front ≡ Some (x, rest)

-- the same, but for want of memory
abbrev pub Gives : {X E : Type 0} → Front X → Result X (MemoryOr E) → List ℕ → Type 0
Gives front (Ok x) rest = front ≡ Some (x, rest)
Gives front (Err (Refused e)) rest = front ≡ None
Gives front (Err Memory) rest = Unit {0}

-- forms behind others
abbrev pub joined : {X : Type 0} → List X → Front (List X) → Front (List X)
joined before None = None
joined before (Some p) = Some (before ++ p.0, p.1)

-- a call came to what stands at the front, or there is nothing of the kind, or memory was wanting
abbrev pub EndsReading : {X E : Type 0} → Front X → X → Option (MemoryOr E) → List ℕ → Type 0
EndsReading front after None rest = front ≡ Some (after, rest)
EndsReading front after (Some (Refused e)) rest = front ≡ None
EndsReading front after (Some Memory) rest = Unit {0}

-- edits behind others, with the side of the last of these
abbrev pub alike : List Sided → Front (List Edit) → Front (List Sided)
alike before front = behind front (λ es r. Some (before ++ under (side_after True before) es, r))

-- edits with one more, of the side of the last of them
abbrev pub with_edit : List Sided → Edit → List Sided
with_edit before e = before ++ sided (side_after True before) e ∷ []

-- edits with those of a run
abbrev pub with_run : List Sided → SideRun → List Sided
with_run before run = before ++ under run.side run.edits

-- a call put what stands at the front to others
abbrev pub Puts : {X Y E : Type 0} → (List Y → X → List Y) → Front X → List Y → List Y → Option (MemoryOr E) → List ℕ → Type 0
Puts {X = X} put front before after None rest = (x : X) × (front ≡ Some (x, rest)) × (after ≡ put before x)
Puts put front before after (Some (Refused e)) rest = front ≡ None
Puts put front before after (Some Memory) rest = Unit {0}

-- parts in front of expressions, from the last
abbrev pub pushed : List Sign → List (Formula ℕ) → List (Formula ℕ)
pushed [] es = es
pushed (s ∷ ss) es = taken s (pushed ss es)

-- parts in front of what stands at the front
abbrev pub onto : List Sign → Front (List (Formula ℕ)) → Front (List (Formula ℕ))
onto ss None = None
onto ss (Some p) = Some (pushed ss p.0, p.1)

-- a call took the parts of what stands at the front
abbrev pub EndsParts : {E : Type 0} → Front (List (Formula ℕ)) → List Sign → Option (MemoryOr E) → List ℕ → Type 0
EndsParts front ss None rest = front ≡ Some (pushed ss [], rest)
EndsParts front ss (Some (Refused e)) rest = front ≡ None
EndsParts front ss (Some Memory) rest = Unit {0}

-- the first expression, if there is one
abbrev pub first : List (Formula ℕ) → Option (Formula ℕ)
first [] = None
first (e ∷ es) = Some e

-- the same of a form that nothing follows
abbrev pub GivesAlone : {X E : Type 0} → Front X → Result X (MemoryOr E) → Type 0
GivesAlone front (Ok x) = alone front ≡ Some x
GivesAlone front (Err (Refused e)) = alone front ≡ None
GivesAlone front (Err Memory) = Unit {0}

-- what is given only if a test holds
abbrev pub OnlyIf : {X E : Type 0} → Bool → X → Result X (MemoryOr E) → Type 0
OnlyIf test x (Ok y) = (test ≡ true) × (y ≡ x)
OnlyIf test x (Err (Refused e)) = test ≡ false
OnlyIf test x (Err Memory) = ⊥
