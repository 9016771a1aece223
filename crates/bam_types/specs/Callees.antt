-- The signatures of the names of a code.
use Rattle.std.specs.Prelude.{Bool, cond, ◌&&◌, ℕ, ◌+◌, nat_eq, List, [], ◌∷◌, map, Option, Some, None, option_map, slice_get}
use Rattle.std.specs.declared.hash.FoldHasher.{FoldHasher}
use Rattle.std.specs.declared.hash.BuildHasherDefault.{BuildHasherDefault}
use Rattle.std.specs.HashMap.{get, HashMap}
use Rattle.aq_term.specs.declared.proc_name.ProcName.{ProcName}
use Rattle.bam_code.specs.declared.code.Code.{Code}
use Rattle.bam_code.specs.declared.procedure.Proc.{Proc}
use Rattle.bam_code.specs.declared.signature.Signature.{Signature}
use Rattle.bam_types.specs.declared.callees.Callees.{Callees}

-- a name as a key
abbrev pub Key : Type 0
Key = ℕ × ℕ × ℕ × ℕ

abbrev pub key_of : ProcName → Key
key_of name = (name.name.number, name.arity, name.part, name.width)

abbrev pub key_eq : Key → Key → Bool
key_eq a b = nat_eq a.0 b.0 && nat_eq a.1 b.1 && nat_eq a.2 b.2 && nat_eq a.3 b.3

-- the place of a name by a table
abbrev pub placed : HashMap Key ℕ (BuildHasherDefault FoldHasher) → ProcName → Option ℕ
placed table name = get key_eq table (key_of name)

abbrev pub signature_of : Proc → Signature
signature_of proc = proc.signature

abbrev pub proc_at : List Proc → Option ℕ → Option Signature
proc_at procs None = None
proc_at procs (Some number) = option_map signature_of (slice_get procs number)

abbrev pub import_at : List Signature → Option ℕ → Option Signature
import_at imports None = None
import_at imports (Some number) = slice_get imports number

-- the signature of a procedure of this name
abbrev pub procedure_in : Callees → Code → ProcName → Option Signature
procedure_in callees code name = proc_at code.procs (placed callees.procs name)

abbrev pub or_import : Option Signature → Option Signature → Option Signature
or_import None import_ = import_
or_import (Some found) import_ = Some found

-- the signature of a procedure or an import of this name
abbrev pub callee_in : Callees → Code → ProcName → Option Signature
callee_in callees code name =
    or_import (procedure_in callees code name) (import_at code.imports (placed callees.imports name))

abbrev pub same_name : ProcName → ProcName → Bool
same_name a b = key_eq (key_of a) (key_of b)

-- the place of the last of these signatures, from a number on, that has the name, and else what was found before
abbrev pub last_of : List Signature → ProcName → ℕ → Option ℕ → Option ℕ
last_of [] name number found = found
last_of (signature ∷ signatures) name number found =
    last_of signatures name (number + 1) (cond (same_name signature.name name) (Some number) found)

-- the signature of the last procedure of a name
abbrev pub procedure_of_name : Code → ProcName → Option Signature
procedure_of_name code name = proc_at code.procs (last_of (map signature_of code.procs) name 0 None)

-- the same, and else that of the last import of the name
abbrev pub callee_of_name : Code → ProcName → Option Signature
callee_of_name code name =
    or_import (procedure_of_name code name) (import_at code.imports (last_of code.imports name 0 None))
