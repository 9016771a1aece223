-- Variables that are out behind a step were so before.
use Rattle.std.proofs.Common.{◌≡◌, ℕ, zero, suc, List, [], ◌∷◌, Option, None, Some, Result, Ok, Err, OnOk}
use Rattle.aq_term.specs.declared.term.Term.{Term}
use Rattle.aq_term.specs.declared.term.Term.TheVariants as term
use Rattle.flow_equations.specs.Env.{Env, changed, fact_of}
use Rattle.flow_equations.specs.FactRules.{seen}
use Rattle.goal_code.specs.Passed.{passed, passed_one}
use Rattle.type_lattice.specs.declared.fact.Fact.{Fact}
use Rattle.type_lattice.specs.declared.fact.Fact.TheVariants as fact

seen_out : (f : Fact) → seen f ≡ fact.Out → f ≡ fact.Out
seen_out fact.Bot e = e
seen_out fact.Out e = absurd (let no : ⊥ = cc in no)
seen_out fact.Full e = e
seen_out fact.GroundDirect e = e
seen_out fact.Ground e = e
seen_out fact.Direct e = e
seen_out fact.Nonvar e = e
seen_out fact.Any e = e

changed_out : (env : Env) (u v : ℕ) → fact_of (changed seen env u) v ≡ fact.Out → fact_of env v ≡ fact.Out
changed_out [] u v e = e
changed_out (f ∷ env) zero zero e = seen_out f e
changed_out (f ∷ env) zero (suc v) e = e
changed_out (f ∷ env) (suc u) zero e = e
changed_out (f ∷ env) (suc u) (suc v) e = changed_out env u v e

passed_one_out : (env : Env) (t : Term) (call : Option Fact) (v : ℕ) → fact_of (passed_one env t call) v ≡ fact.Out → fact_of env v ≡ fact.Out
passed_one_out env (term.Int z) call v e = e
passed_one_out env (term.Atom a) call v e = e
passed_one_out env (term.Compound a ts) call v e = e
passed_one_out env (term.Var u) None v e = changed_out env u v e
passed_one_out env (term.Var u) (Some fact.Out) v e = e
passed_one_out env (term.Var u) (Some fact.Bot) v e = changed_out env u v e
passed_one_out env (term.Var u) (Some fact.Full) v e = changed_out env u v e
passed_one_out env (term.Var u) (Some fact.GroundDirect) v e = changed_out env u v e
passed_one_out env (term.Var u) (Some fact.Ground) v e = changed_out env u v e
passed_one_out env (term.Var u) (Some fact.Direct) v e = changed_out env u v e
passed_one_out env (term.Var u) (Some fact.Nonvar) v e = changed_out env u v e
passed_one_out env (term.Var u) (Some fact.Any) v e = changed_out env u v e

pub passed_out : (env : Env) (ts : List Term) (calls : List Fact) (v : ℕ) → fact_of (passed env ts calls) v ≡ fact.Out → fact_of env v ≡ fact.Out
passed_out env [] calls v e = e
passed_out env (t ∷ ts) [] v e = passed_one_out env t None v (passed_out (passed_one env t None) ts [] v e)
passed_out env (t ∷ ts) (call ∷ calls) v e = passed_one_out env t (Some call) v (passed_out (passed_one env t (Some call)) ts calls v e)

-- what is so is so where a call gives a value
pub on_ok : {T E P : Type 0} (r : Result T E) → P → OnOk r P
on_ok (Ok x) p = p
on_ok (Err e) p = tt
