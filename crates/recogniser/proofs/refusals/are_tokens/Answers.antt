-- `recogniser::refusals::are_tokens` meets its contract. Assumes nothing.
use Rattle.std.specs.Prelude.{IsTrue, EachIndex, ◌↔◌, slice_index}
use Rattle.std.proofs.Common.{rules}
use Rattle.symbols.specs.Symbol.{terminal}
use Rattle.recogniser.proofs.Promise.{each-token}
use Rattle.recogniser.proofs.refusals.are_tokens.Goals as goal

pub returns : goal.returns
returns c =
    let each : IsTrue c.all.result ↔ EachIndex c.args.line.now (λ k. IsTrue (terminal (slice_index c.args.line.now k))) = search rules in
    each-token _ c.args.line.now each
