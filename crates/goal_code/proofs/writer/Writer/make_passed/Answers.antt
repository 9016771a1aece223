use Rattle.std.proofs.Common.{◌≡◌, sym, ap, ◌∙◌}
use Rattle.flow_equations.specs.Env.{fact_of}
use Rattle.type_lattice.specs.declared.fact.Fact.TheVariants as fact
use Rattle.goal_code.proofs.OutPassed.{on_ok, passed_out}
use Rattle.goal_code.proofs.writer.Writer.make_passed.Goals as goal

pub returns-clause-stays : goal.returns-clause-stays
returns-clause-stays c =
    on_ok c.make_cells.result
    (λ v out.
    let seen : fact_of c.see_passed.new.env v ≡ fact.Out = sym (ap (λ facts. fact_of facts v) c.make_cells.ensures.facts) ∙ out in
    let ready : fact_of c.make_ready.new.self.picture.facts v ≡ fact.Out =
    passed_out c.make_ready.new.self.picture.facts c.args.arguments.now c.as_slice.result.now v
    (sym (ap (λ facts. fact_of facts v) c.see_passed.ensures) ∙ seen) in
    c.make_cells.ensures.stays v seen ∙ c.in_ok-make_ready.ensures.stays v ready)
