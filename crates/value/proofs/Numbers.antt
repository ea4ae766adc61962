-- The operators on one number, by what each gives of an integer and of a float.
use Rattle.std.proofs.Common.{◌≡◌, neg_ℤ}
use native.Mathlib.Omega.{arith}
use lib.Ieee as Ieee
use Rattle.rules.specs.Arithmetic.{gives, fails, fitted, factorial, floating}
use Rattle.rules.specs.Ast.{fact, ident, neg, sqrt}
use Rattle.rules.specs.Operators.{unary_of, factorial_of, identity_of, negation_of, root_of}
use Rattle.rules.specs.Refusals.{wrong_operand, not_worked_out}
use Rattle.rules.specs.Schema.{Value, int}
use Rattle.value.specs.Operands.{number_of}

pub by-fact : (v : Value) → number_of factorial (λ x. fails wrong_operand) v ≡ unary_of fact v
unfolding number_of unary_of factorial_of
by-fact v = grind arith

pub by-ident : (v : Value) → number_of (λ n. gives (int n)) floating v ≡ unary_of ident v
unfolding number_of unary_of identity_of
by-ident v = grind arith

pub by-neg : (v : Value) → number_of (λ n. fitted (neg_ℤ n)) (λ x. floating (Ieee.neg x)) v ≡ unary_of neg v
unfolding number_of unary_of negation_of
by-neg v = grind arith

pub by-sqrt : (v : Value) → number_of (λ n. root_of (int n)) (λ x. fails not_worked_out) v ≡ unary_of sqrt v
unfolding number_of unary_of root_of
by-sqrt v = grind arith
