use Rattle.buffer_classes.proofs.{◌≡◌, length, vec_capacity, AllOf, class_sizes, AreBuffersIn, AreGiversOf, Begins, Offers, givers_of, Below, PutsSome}
use Rattle.buffer_classes.proofs.givers.Givers.give.Given as goal

-- the classes before this one were begun
abbrev pub invariant-loop-class : goal.invariant-loop-class
invariant-loop-class l = AreGiversOf l.classes l.self × AllOf (Below (λ i. Begins) l.class) (givers_of l.initial.self) (givers_of l.self)

-- each buffer that is not left was put to those of its class
abbrev pub invariant-loop-buf : goal.invariant-loop-buf
invariant-loop-buf l =
    AreGiversOf l.classes l.self
    × AreBuffersIn (class_sizes l.classes) l.back.items
    × AllOf (PutsSome l.initial.back.items l.back.items) (givers_of l.initial.self) (givers_of l.self)
    × (vec_capacity l.back ≡ vec_capacity l.initial.back)

abbrev pub decreases-loop-buf : goal.decreases-loop-buf
decreases-loop-buf l = length l.back.items

-- what the classes before this one have is offered
abbrev pub invariant-loop-class-2 : goal.invariant-loop-class-2
invariant-loop-class-2 l = AreGiversOf l.classes l.self × AllOf (Below (λ i. Offers) l.class) (givers_of l.initial.self) (givers_of l.self)
