mod Cuts
mod Prefixes
mod Finding
mod Advancing
mod StepCases
mod Lending
