-- Atoms as keys: lists of numbers that tell ground atoms apart, whatever bytes their names have.
--     byte_key byte    the byte, behind a 1 where it is a 0 or a 1
--     name_key name    the keys of its bytes, and a 0 at the end
--     key_of q         the keys of the names of an atom, one behind the other
use Rattle.std.specs.Prelude.{ℕ, cond, nat_le, List, [], ◌∷◌, ◌++◌, flat_map}
use Rattle.ppddl_model.specs.State.{Name, GroundAtom}

abbrev pub byte_key : ℕ → List ℕ
byte_key byte = cond (nat_le byte 1) (1 ∷ byte ∷ []) (byte ∷ [])

abbrev pub name_key : Name → List ℕ
name_key [] = 0 ∷ []
name_key (byte ∷ name) = byte_key byte ++ name_key name

abbrev pub key_of : GroundAtom → List ℕ
key_of q = flat_map name_key q
