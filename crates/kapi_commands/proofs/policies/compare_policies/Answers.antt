use Rattle.kapi_commands.proofs.policies.compare_policies.Goals as goal

pub returns : goal.returns
returns c = λ i. record {
  text = c.in_ok-compared.ensures.text i;
  gains = c.in_ok-compared.ensures.gains i;
  before_settled = c.args.before.now.settled;
  after_settled = c.args.after.now.settled;
}
