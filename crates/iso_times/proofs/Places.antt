-- The places of bodies in the table.
use Rattle.std.proofs.Common.{◌≡◌, ◌<◌, ◌*◌, ℕ, arith}
use Rattle.iso_lifecycle.specs.declared.kind.BodyKind.{BodyKind}
use Rattle.iso_lifecycle.specs.declared.kind.BodyKind.TheVariants.{BeforeAll, Test, AfterAll}
use Rattle.iso_times.specs.Tables.{slot_of}

pub node-of-place : (m n : ℕ) (j k : BodyKind) → slot_of m j ≡ slot_of n k → m ≡ n
node-of-place m n BeforeAll BeforeAll e = omega arith
node-of-place m n BeforeAll Test e = omega arith
node-of-place m n BeforeAll AfterAll e = omega arith
node-of-place m n Test BeforeAll e = omega arith
node-of-place m n Test Test e = omega arith
node-of-place m n Test AfterAll e = omega arith
node-of-place m n AfterAll BeforeAll e = omega arith
node-of-place m n AfterAll Test e = omega arith
node-of-place m n AfterAll AfterAll e = omega arith

pub place-within : (n nodes : ℕ) (k : BodyKind) → n < nodes → slot_of n k < 2 * nodes
place-within n nodes BeforeAll less = omega arith
place-within n nodes Test less = omega arith
place-within n nodes AfterAll less = omega arith
