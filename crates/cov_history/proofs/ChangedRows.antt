-- What another name or another parent leaves of a row.
use Rattle.std.proofs.Common.{◌≡◌, ℕ, Bool, true, false, cond, nat_eq, List, refl}
use Rattle.cov_base.specs.Rows.{Row, with_name, with_parent}

field-of : {X : Type 0} (field : Row → X) (b : Bool) (s r : Row) → field s ≡ field r → field (cond b s r) ≡ field r
field-of field true s r same = same
field-of field false s r same = refl

-- a field that doesn't read the name stays with another name
pub renamed-field : {X : Type 0} (field : Row → X) (node : ℕ) (name : List ℕ) (r : Row)
    → field (record { node = r.node; kind = r.kind; parent = r.parent; name = name }) ≡ field r → field (with_name node name r) ≡ field r
renamed-field field node name r same = field-of field (nat_eq r.node node) (record { node = r.node; kind = r.kind; parent = r.parent; name = name }) r same

-- one that doesn't read the parent stays with another parent
pub moved-field : {X : Type 0} (field : Row → X) (node parent : ℕ) (r : Row)
    → field (record { node = r.node; kind = r.kind; parent = parent; name = r.name }) ≡ field r → field (with_parent node parent r) ≡ field r
moved-field field node parent r same = field-of field (nat_eq r.node node) (record { node = r.node; kind = r.kind; parent = parent; name = r.name }) r same
