pub mod CounterTask
pub mod LeastTask
