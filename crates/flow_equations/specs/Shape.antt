-- What stays of a predicate's facts while they rise.
use Rattle.std.specs.Prelude.{ℕ, ◌-◌, false, cond, length, replicate}
use Rattle.type_lattice.specs.declared.fact.Fact.TheVariants as fact
use Rattle.aq_term.specs.declared.proc_name.ProcName.{ProcName}
use Rattle.kernel_ir.specs.declared.kernel_predicate.KernelPredicate.{KernelPredicate}
use Rattle.flow_equations.specs.declared.predicate_facts.PredicateFacts.{PredicateFacts}

-- the name, and how many facts there are of the arguments at a call and at a success
pub record Shape : Type 0 where
  pub name : ProcName
  pub call : ℕ
  pub success : ℕ

abbrev pub shape_of : PredicateFacts → Shape
shape_of p = record { name = p.name; call = length p.call; success = length p.success }

-- how many arguments a predicate has, a barrier left out
abbrev pub arguments_of : KernelPredicate → ℕ
arguments_of p = p.name.width - cond p.barrier 1 0

-- one fact for each argument
abbrev pub due_shape : KernelPredicate → Shape
due_shape p = record { name = p.name; call = arguments_of p; success = arguments_of p }

-- the facts of a predicate before anything is taken
abbrev pub unreached : KernelPredicate → PredicateFacts
unreached p = record {
  name = p.name;
  reached = false;
  call = replicate (arguments_of p) fact.Bot;
  success = replicate (arguments_of p) fact.Bot;
}
