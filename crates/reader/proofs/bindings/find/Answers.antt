-- `reader::bindings::find` meets its contract, at each way out: a short prefix is told by its key.
use native.Mathlib.Omega.{arith}
use Rattle.reader.proofs.Seek.{found_xml}
use Rattle.reader.proofs.PrefixKeys.{bytes_at}
use Rattle.reader.proofs.KeySeek.{own_found, open_found, none_found}
use Rattle.reader.proofs.bindings.find.Goals as goal

pub returns-then-same : goal.returns-then-same
returns-then-same c = search found_xml

pub returns-in-Some : goal.returns-in-Some
returns-in-Some c =
    open_found c.args.s.now c.args.in_scope.known.now c.args.prefix.now (bytes_at c.args.s.now (λ i. omega (arith, c.type_inv.s i))) (bytes_at c.args.prefix.now (λ i. omega (arith, c.type_inv.prefix i))) c.if-prefix-gt7.false
    _ c.args.in_scope.owned _ c.args.in_scope.bound c.requires.bound c.requires.owned c.requires.outer c.requires.own _ c.same.ensures c.if-same.false _ c.key_of.ensures _ c.last_key.ensures _ c.in-Some.is c.if-k-bound.true

pub returns-in-Some-2 : goal.returns-in-Some-2
returns-in-Some-2 c =
    own_found c.args.s.now c.args.in_scope.known.now c.args.prefix.now (bytes_at c.args.s.now (λ i. omega (arith, c.type_inv.s i))) (bytes_at c.args.prefix.now (λ i. omega (arith, c.type_inv.prefix i))) c.if-prefix-gt7.false
    _ c.args.in_scope.owned _ c.args.in_scope.bound c.requires.bound c.requires.owned c.requires.outer c.requires.own _ c.same.ensures c.if-same.false _ c.key_of.ensures _ c.last_key.ensures _ c.in-Some.is c.if-k-bound.false

pub returns-in-None : goal.returns-in-None
returns-in-None c =
    none_found c.args.s.now c.args.in_scope.known.now c.args.prefix.now (bytes_at c.args.s.now (λ i. omega (arith, c.type_inv.s i))) (bytes_at c.args.prefix.now (λ i. omega (arith, c.type_inv.prefix i))) c.if-prefix-gt7.false
    _ c.args.in_scope.owned _ c.args.in_scope.bound c.requires.bound c.requires.owned c.requires.outer c.requires.own _ c.same.ensures c.if-same.false _ c.key_of.ensures _ c.last_key.ensures _ c.in-None.is c.undeclared.ensures
