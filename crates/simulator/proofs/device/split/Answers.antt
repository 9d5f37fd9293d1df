-- The rest is what follows the front.
use Rattle.std.proofs.Common.{drop, sym, ap, ◌∙◌}
use Rattle.std.proofs.lemmas.List.{drop_at}
use Rattle.simulator.proofs.device.split.Goals as goal

pub returns : goal.returns
returns c =
    let parts = c.split_at_mut.ensures in
    let front = c.split_at_mut.result.0.now in
    let back = c.split_at_mut.result.1.now in
    record {
      front = parts.front_len;
      rest = sym (ap (drop c.args.count) parts.value ∙ drop_at front back c.args.count parts.front_len);
    }
