use Rattle.std.proofs.Common.{◌≡◌, length, take}
use Rattle.foresight_c.specs.Tickets.{AreSymbolsOf}
use Rattle.foresight_c.proofs.ticketing.symbols_of.Given as goal

-- the first symbols were read, and there is room for all
abbrev pub invariant-loop-g : goal.invariant-loop-g
invariant-loop-g l = record {
  symbols : AreSymbolsOf (take l.g-index l.given) l.list.symbols;
  count : length l.list.symbols ≡ l.g-index;
  room : l.list.room ≡ length l.given;
}
